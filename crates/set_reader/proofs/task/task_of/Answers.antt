use Rattle.std.proofs.Common.{arith}
use Rattle.set_reader.specs.Inner.Parts.{task_of}
use Rattle.set_reader.proofs.task.task_of.Goals as goal

pub returns-in_err-task : goal.returns-in_err-task
unfolding task_of
returns-in_err-task c = grind arith

pub returns-then-exceeds : goal.returns-then-exceeds
unfolding task_of
returns-then-exceeds c = grind arith

pub returns : goal.returns
unfolding task_of
returns c = grind arith
