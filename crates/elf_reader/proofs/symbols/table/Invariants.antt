use Rattle.std.proofs.Common.{◌≡◌, ◌+◌, ◌*◌, map}
use Rattle.std.specs.List.{range_with_len}
use Rattle.elf_reader.specs.Fields.{section_header}
use Rattle.elf_reader.proofs.symbols.table.Given as goal

abbrev pub invariant-loop-i : goal.invariant-loop-i
invariant-loop-i l =
    l.sections.items ≡ map (λ i. section_header l.bytes (l.start + 40 * i)) (range_with_len 0 l.i)
