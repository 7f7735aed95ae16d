use Rattle.std.proofs.Common.{ℕ, ◌<◌, get_or}
use Rattle.crpd_base.specs.declared.data.ScriptJob.{ScriptJob}
use Rattle.crpd_base.specs.Arrivals.{IsReleasedInTime}
use Rattle.script_reader.proofs.legality.are_in_time.Given as goal

abbrev pub invariant-loop-job : goal.invariant-loop-job
invariant-loop-job l =
    (k : ℕ) (d : ScriptJob) → k < l.job-index → IsReleasedInTime l.set (get_or l.jobs k d)
