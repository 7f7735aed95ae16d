use Rattle.std.proofs.Common.{sym, arith}
use Rattle.elf_reader.proofs.Names.{text_past}
use Rattle.elf_reader.proofs.symbols.name.Goals as goal

pub returns-else-place-strings : goal.returns-else-place-strings
returns-else-place-strings c = sym (text_past c.args.strings.now c.args.place (omega arith))
