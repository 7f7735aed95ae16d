use Rattle.std.proofs.Common.{◌≡◌, ℕ, ◌-◌, ◌<◌, ◌≤◌, length}
use Rattle.preempt_machine.specs.Inner.Queue.{due_release}
use Rattle.preempt_machine.specs.Inner.Schedule.{HasOpened}
use Rattle.preempt_machine.proofs.queue.Queue.release.Given as goal

abbrev pub invariant-loop-self : goal.invariant-loop-self
invariant-loop-self l =
    record {
      opened : HasOpened l.initial.self.due.items l.initial.self.released l.self.released
          l.initial.completions l.completions;
      from : l.initial.self.released ≤ l.self.released;
      to : l.initial.self.released ≤ length l.initial.self.due.items
          → l.self.released ≤ length l.initial.self.due.items;
      come : (p : ℕ) → l.initial.self.released ≤ p → p < l.self.released
          → due_release l.initial.self.due.items p ≤ l.now;
      due : l.self.due.items ≡ l.initial.self.due.items;
      later : l.self.later.items ≡ l.initial.self.later.items;
      heads : l.self.heads.items ≡ l.initial.self.heads.items;
    }

abbrev pub decreases-loop-self : goal.decreases-loop-self
decreases-loop-self l = length l.self.due.items - l.self.released
