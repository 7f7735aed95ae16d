use Rattle.std.proofs.Common.{rules}
use Rattle.elf_reader.proofs.reading.is_elf32_little.Goals as goal

pub returns-then-bytes-eq-ELFDATA2LSB : goal.returns-then-bytes-eq-ELFDATA2LSB
returns-then-bytes-eq-ELFDATA2LSB c = search rules

pub returns-else-bytes-eq-ELFDATA2LSB : goal.returns-else-bytes-eq-ELFDATA2LSB
returns-else-bytes-eq-ELFDATA2LSB c = search rules
