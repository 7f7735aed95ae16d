use Rattle.std.proofs.Common.{arith}
use Rattle.set_reader.specs.Inner.Parts.{load_at}
use Rattle.set_reader.proofs.task.load_at.Goals as goal

pub returns-in_err-number : goal.returns-in_err-number
unfolding load_at
returns-in_err-number c = grind arith

pub returns-in_err-number-2 : goal.returns-in_err-number-2
unfolding load_at
returns-in_err-number-2 c = grind arith

pub returns-in_err-number-3 : goal.returns-in_err-number-3
unfolding load_at
returns-in_err-number-3 c = grind arith

pub returns-in_err-optional : goal.returns-in_err-optional
unfolding load_at
returns-in_err-optional c = grind arith

pub returns-in_err-optional-2 : goal.returns-in_err-optional-2
unfolding load_at
returns-in_err-optional-2 c = grind arith

pub returns-in_err-loops_at : goal.returns-in_err-loops_at
unfolding load_at
returns-in_err-loops_at c = grind arith

pub returns : goal.returns
unfolding load_at
returns c = grind arith
