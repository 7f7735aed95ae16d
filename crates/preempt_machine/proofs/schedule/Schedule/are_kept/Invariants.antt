use Rattle.std.proofs.Common.{◌≡◌, ℕ, ◌<◌, true}
use Rattle.flow_watch.specs.Watch.{is_unbroken}
use Rattle.preempt_machine.specs.Machine.{job_at}
use Rattle.preempt_machine.proofs.schedule.Schedule.are_kept.Given as goal

abbrev pub invariant-loop-job : goal.invariant-loop-job
invariant-loop-job l =
    (u : ℕ) → u < l.job-index → is_unbroken (job_at l.self.jobs.items u).watch ≡ true
