use Rattle.std.proofs.Common.{arith}
use Rattle.std.proofs.lemmas.Grind.{common_steps}
use Rattle.preempt_machine.proofs.schedule.Schedule.tell_releases.Goals as goal

pub returns : goal.returns
returns c = grind (arith, common_steps)
