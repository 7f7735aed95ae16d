use Rattle.std.proofs.Common.{◌≡◌, ◌+◌, ◌*◌, map, vec_len}
use Rattle.std.specs.List.{range_with_len}
use Rattle.elf_reader.specs.Fields.{program_header}
use Rattle.elf_reader.proofs.program.table.Given as goal

abbrev pub invariant-loop-i : goal.invariant-loop-i
invariant-loop-i l = record {
  headers : l.headers.items
      ≡ map (λ i. program_header l.bytes (l.start + 32 * i)) (range_with_len 0 l.i);
  count : vec_len l.headers ≡ l.i;
}
