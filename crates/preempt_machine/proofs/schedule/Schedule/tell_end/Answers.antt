use Rattle.std.proofs.Common.{arith}
use Rattle.std.proofs.lemmas.Grind.{common_steps}
use Rattle.preempt_machine.proofs.schedule.Schedule.tell_end.Goals as goal

pub returns-then-over : goal.returns-then-over
returns-then-over c = grind (arith, common_steps)

pub returns-else-over : goal.returns-else-over
returns-else-over c = grind (arith, common_steps)
