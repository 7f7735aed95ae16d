use Rattle.std.proofs.Common.{arith}
use Rattle.std.proofs.lemmas.Grind.{common_steps}
use Rattle.preempt_machine.proofs.queue.Queue.next_release.Goals as goal

pub returns-then-index-until : goal.returns-then-index-until
returns-then-index-until c = grind (arith, common_steps)

pub returns-else-self-len : goal.returns-else-self-len
returns-else-self-len c = grind (arith, common_steps)
