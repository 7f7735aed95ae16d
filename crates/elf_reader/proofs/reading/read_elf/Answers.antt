use Rattle.elf_reader.proofs.Law.{image_from}
use Rattle.elf_reader.proofs.reading.read_elf.Goals as goal

pub returns-clause-image : goal.returns-clause-image
returns-clause-image c = image_from c.args.bytes.now c.image_of.result c.image_of.ensures
