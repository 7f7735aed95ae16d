use Rattle.std.proofs.Common.{arith}
use Rattle.set_reader.specs.Reading.{platform_at}
use Rattle.text_keys.specs.Paths.{each}
use Rattle.set_reader.proofs.platform.platform_at.Goals as goal

pub returns-in_err-all_known : goal.returns-in_err-all_known
unfolding platform_at
returns-in_err-all_known c = grind arith

pub returns-in_err-line : goal.returns-in_err-line
unfolding platform_at
returns-in_err-line c = grind arith

pub returns-in_err-sets : goal.returns-in_err-sets
unfolding platform_at each
returns-in_err-sets c = grind arith

pub returns-in_err-switching : goal.returns-in_err-switching
unfolding platform_at each
returns-in_err-switching c = grind arith

pub returns : goal.returns
unfolding platform_at each
returns c = grind arith
