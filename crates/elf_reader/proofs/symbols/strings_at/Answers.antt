use Rattle.std.proofs.Common.{rules}
use Rattle.elf_reader.specs.Symbols.{strings_at}
use Rattle.elf_reader.proofs.symbols.strings_at.Goals as goal

pub returns-in_default : goal.returns-in_default
unfolding strings_at
returns-in_default c = search rules
