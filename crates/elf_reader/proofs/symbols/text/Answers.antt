use Rattle.elf_reader.specs.Symbols.{symbol_text}
use Rattle.elf_reader.proofs.symbols.text.Goals as goal

pub returns-in-None : goal.returns-in-None
unfolding symbol_text
returns-in-None c = rw (← c.in-None.ensures.is)
