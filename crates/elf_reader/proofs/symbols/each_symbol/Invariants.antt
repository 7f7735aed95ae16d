use Rattle.std.proofs.Common.{◌≡◌, ◌+◌, ◌*◌, map}
use Rattle.std.specs.List.{filter_map, range_with_len}
use Rattle.elf_reader.specs.Fields.{symbol_entry}
use Rattle.elf_reader.specs.Symbols.{symbol}
use Rattle.elf_reader.proofs.symbols.each_symbol.Given as goal

abbrev pub invariant-loop-i : goal.invariant-loop-i
invariant-loop-i l =
    l.symbols.items ≡ filter_map (symbol l.strings)
    (map (λ i. symbol_entry l.bytes (l.start + 16 * i)) (range_with_len 0 l.i))
