use Rattle.std.proofs.Common.{arith}
use Rattle.std.proofs.lemmas.Grind.{common_steps}
use Rattle.set_reader.specs.Reading.{tasks_at}
use Rattle.set_reader.proofs.set.tasks_at.Goals as goal

pub returns-in_err-tables : goal.returns-in_err-tables
unfolding tasks_at
returns-in_err-tables c = grind arith

pub returns-then-len-gt-MOST_TASKS : goal.returns-then-len-gt-MOST_TASKS
unfolding tasks_at
returns-then-len-gt-MOST_TASKS c = grind (arith, common_steps)

pub returns-in_err-tasks : goal.returns-in_err-tasks
unfolding tasks_at
returns-in_err-tasks c = grind (arith, common_steps)

pub returns : goal.returns
unfolding tasks_at
returns c = grind (arith, common_steps)
