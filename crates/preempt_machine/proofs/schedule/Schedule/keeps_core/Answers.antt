use Rattle.std.proofs.Common.{arith}
use Rattle.std.proofs.lemmas.Grind.{common_steps}
use Rattle.preempt_machine.proofs.schedule.Schedule.keeps_core.Goals as goal

pub returns-then-is_ready : goal.returns-then-is_ready
returns-then-is_ready c = grind (arith, common_steps)

pub returns-else-is_ready : goal.returns-else-is_ready
returns-else-is_ready c = grind (arith, common_steps)
