use Rattle.std.proofs.Common.{ℕ, ◌<◌}
use Rattle.preempt_machine.specs.Inner.Queue.{IsHeadReleased}
use Rattle.preempt_machine.proofs.queue.Queue.first.Given as goal

abbrev pub invariant-loop-head : goal.invariant-loop-head
invariant-loop-head l =
    (u p : ℕ) → u < l.head-index → IsHeadReleased l.self.due.items l.self.heads.items l.now u p → ⊥
