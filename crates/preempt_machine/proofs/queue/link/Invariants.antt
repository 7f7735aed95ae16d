use Rattle.std.proofs.Common.{ℕ, ◌+◌, ◌<◌, ◌≤◌, length}
use Rattle.preempt_machine.specs.Inner.Queue.{due_task, IsFirstFrom, position_at}
use Rattle.preempt_machine.proofs.queue.link.Given as goal

abbrev pub invariant-loop-at : goal.invariant-loop-at
invariant-loop-at l =
    record {
      within : l.at ≤ length l.due;
      next : (p : ℕ) → l.at ≤ p → p < length l.due
          → IsFirstFrom l.lines l.due (due_task l.lines l.due p) (p + 1) (position_at l.later p);
      heads : (t : ℕ) → t < length l.heads
          → IsFirstFrom l.lines l.due t l.at (position_at l.heads t);
    }

abbrev pub decreases-loop-at : goal.decreases-loop-at
decreases-loop-at l = l.at
