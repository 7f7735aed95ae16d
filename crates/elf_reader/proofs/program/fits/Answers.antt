use Rattle.std.proofs.Common.{rules}
use Rattle.elf_reader.proofs.program.fits.Goals as goal

pub returns-then-header : goal.returns-then-header
returns-then-header c = search rules
