use Rattle.std.proofs.Common.{arith, rules}
use Rattle.elf_reader.specs.Reading.{reading}
use Rattle.elf_reader.proofs.reading.image_of.Goals as goal

pub returns-in_err-check_apart : goal.returns-in_err-check_apart
unfolding reading
returns-in_err-check_apart c = search rules

pub returns-in_err-symbols : goal.returns-in_err-symbols
unfolding reading
returns-in_err-symbols c = grind arith

pub returns-in_err-segments : goal.returns-in_err-segments
unfolding reading
returns-in_err-segments c = grind arith

pub returns : goal.returns
unfolding reading
returns c = grind arith
