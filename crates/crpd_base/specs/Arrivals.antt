-- The arrivals of jobs: which scripts are legal.
use Rattle.std.specs.Prelude.{◌≡◌, ℕ, ◌+◌, ◌≤◌, ◌⊎◌, List, All, AllPairs}
use Rattle.crpd_base.specs.declared.data.ScriptJob.{ScriptJob}
use Rattle.crpd_base.specs.declared.data.TaskSet.{TaskSet}
use Rattle.crpd_base.specs.Tasks.{period_of, jitter_of}

-- two times are at least a period apart
abbrev pub AreApart : ℕ → ℕ → ℕ → Type 0
AreApart period a b = (a + period ≤ b) ⊎ (b + period ≤ a)

-- two jobs of one task arrive at least its period apart
abbrev pub AreSpaced : TaskSet → ScriptJob → ScriptJob → Type 0
AreSpaced set x y = x.task.0 ≡ y.task.0 → AreApart (period_of set x.task.0) x.arrival y.arrival

-- a job is released at its arrival or at most its task's jitter later
abbrev pub IsReleasedInTime : TaskSet → ScriptJob → Type 0
IsReleasedInTime set job =
    (job.arrival ≤ job.release) × (job.release ≤ job.arrival + jitter_of set job.task.0)

-- legal by period and jitter
pub record IsLegal (set : TaskSet) (jobs : List ScriptJob) : Type 0 where
  pub spaced : AllPairs (AreSpaced set) jobs
  pub in_time : All (IsReleasedInTime set) jobs
