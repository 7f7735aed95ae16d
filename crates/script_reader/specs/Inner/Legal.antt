-- Inner definitions: which scripts are legal.
use Rattle.std.specs.Prelude.{◌≡◌, ℕ, ◌<◌, List, [], ◌∷◌, length, ◌==◌, if◌then◌else◌, AllPairs}
use Rattle.crpd_base.specs.declared.data.ScriptJob.{ScriptJob}
use Rattle.crpd_base.specs.declared.data.TaskSet.{TaskSet}
use Rattle.crpd_base.specs.Tasks.{period_of}
use Rattle.crpd_base.specs.Arrivals.{AreApart, AreSpaced}

-- any two of the times are at least a period apart
pub record AreAllApart (period : ℕ) (times : List ℕ) : Type 0 where
  pub pairs : AllPairs (AreApart period) times

-- when the jobs of a task arrive
abbrev pub arrivals_of : ℕ → List ScriptJob → List ℕ
arrivals_of t [] = []
arrivals_of t (j ∷ js) = if j.task.0 == t then j.arrival ∷ arrivals_of t js else arrivals_of t js

-- the arrivals of each task are at least its period apart
pub record EachIsSpaced (set : TaskSet) (jobs : List ScriptJob) : Type 0 where
  pub tasks : (t : ℕ) → t < length set.tasks → AreAllApart (period_of set t) (arrivals_of t jobs)

-- any two jobs of one task arrive at least its period apart
pub record AreSpacedPairs (set : TaskSet) (jobs : List ScriptJob) : Type 0 where
  pub pairs : AllPairs (AreSpaced set) jobs

-- two jobs arrive at least a period apart, if they are of one task
abbrev pub IsSpacedBy : ℕ → ScriptJob → ScriptJob → Type 0
IsSpacedBy period x y = x.task.0 ≡ y.task.0 → AreApart period x.arrival y.arrival
