use Rattle.std.proofs.Common.{arith}
use Rattle.script_reader.specs.Reading.{cycles_at}
use Rattle.script_reader.proofs.script.cycles_at.Goals as goal

pub returns-in_err-value : goal.returns-in_err-value
unfolding cycles_at
returns-in_err-value c = grind arith

pub returns-then-is_above : goal.returns-then-is_above
unfolding cycles_at
returns-then-is_above c = grind arith

pub returns-in_err-good : goal.returns-in_err-good
unfolding cycles_at
returns-in_err-good c = grind arith

pub returns : goal.returns
unfolding cycles_at
returns c = grind arith
