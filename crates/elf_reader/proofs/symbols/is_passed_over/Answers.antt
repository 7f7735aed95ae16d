use Rattle.std.proofs.Common.{rules}
use Rattle.elf_reader.proofs.symbols.is_passed_over.Goals as goal

pub returns-then-undefined : goal.returns-then-undefined
returns-then-undefined c = search rules

pub returns-else-undefined : goal.returns-else-undefined
returns-else-undefined c = search rules
