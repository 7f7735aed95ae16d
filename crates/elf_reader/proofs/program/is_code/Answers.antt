use Rattle.std.proofs.Common.{rules}
use Rattle.elf_reader.proofs.program.is_code.Goals as goal

pub returns-then-executable : goal.returns-then-executable
returns-then-executable c = search rules

pub returns-else-executable : goal.returns-else-executable
returns-else-executable c = search rules
