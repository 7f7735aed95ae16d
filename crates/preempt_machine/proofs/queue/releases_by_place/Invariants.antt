use Rattle.std.proofs.Common.{◌≡◌, ℕ, ◌<◌, length}
use Rattle.preempt_machine.specs.Schedule.{script_line}
use Rattle.preempt_machine.specs.Inner.Queue.{due_at}
use Rattle.preempt_machine.proofs.queue.releases_by_place.Given as goal

abbrev pub invariant-loop-place : goal.invariant-loop-place
invariant-loop-place l =
    record {
      long : length l.due.items ≡ l.place;
      each : (x : ℕ) → x < l.place
          → due_at l.due.items x
          ≡ record { release = (script_line l.lines x).release; place = x };
    }
