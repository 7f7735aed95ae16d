use Rattle.std.proofs.Common.{rules}
use Rattle.elf_reader.specs.Reading.{program_headers}
use Rattle.elf_reader.proofs.program.program_headers.Goals as goal

pub returns-then-size-ne-PROGRAM_HEADER-clause-headers :
    goal.returns-then-size-ne-PROGRAM_HEADER-clause-headers
unfolding program_headers
returns-then-size-ne-PROGRAM_HEADER-clause-headers c = search rules
