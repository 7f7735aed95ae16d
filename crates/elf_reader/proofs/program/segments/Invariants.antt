use Rattle.std.proofs.Common.{◌≡◌, take}
use Rattle.elf_reader.specs.Segments.{segments}
use Rattle.elf_reader.proofs.program.segments.Given as goal

abbrev pub invariant-loop-header : goal.invariant-loop-header
invariant-loop-header l = l.loaded.items ≡ segments l.bytes (take l.header-index l.headers)
