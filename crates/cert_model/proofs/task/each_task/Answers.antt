use Rattle.std.proofs.Common.{arith}
use Rattle.std.proofs.lemmas.Grind.{common_steps}
use Rattle.text_keys.specs.Paths.{each}
use Rattle.cert_model.proofs.task.each_task.Goals as goal

pub returns-in_err-task_at : goal.returns-in_err-task_at
unfolding each
returns-in_err-task_at c = grind (arith, common_steps)

pub loop-i-preserved : goal.loop-i-preserved
unfolding each
loop-i-preserved c = grind (arith, common_steps)

pub returns : goal.returns
unfolding each
returns c = grind (arith, common_steps)
