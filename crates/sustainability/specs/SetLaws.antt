-- Acceptance and refinement of sets with looser times and the same code.
use Rattle.std.specs.Prelude.{ℕ, ◌<◌, ◌≤◌, List, length}
use Rattle.crpd_base.specs.Tasks.{HasTimes}
use Rattle.crpd_base.specs.declared.data.RefinedTask.{RefinedTask}
use Rattle.crpd_base.specs.declared.data.TaskSet.{TaskSet}
use Rattle.loop_regions.specs.TaskGraph.{TaskGraph}
use Rattle.response.specs.Windows.{chosen_window}
use Rattle.sensitivity.specs.Accepted.{IsAccepted}
use Rattle.delay_point.specs.Refined.{AreRefined, window_at}
use Rattle.sustainability.specs.Workload.{IsLooser}

-- a set is accepted, with windows none of which is longer than that of the task's origin
pub record IsAcceptedWithin (origin : ℕ → ℕ) (set : TaskSet) (graphs : ℕ → TaskGraph)
    (window : ℕ → ℕ) : Type 0 where
  pub accepted : IsAccepted set graphs
  pub no_longer : (k : ℕ) → k < length set.tasks
      → chosen_window accepted.choices k ≤ window (origin k)

-- a set that is accepted stays accepted with looser times and without some of its tasks
abbrev pub AcceptedSetsAreSustainable : Type 0
AcceptedSetsAreSustainable =
    (origin : ℕ → ℕ) (less more : TaskSet) (graphs : ℕ → TaskGraph) →
    HasTimes more → IsLooser origin less more → (a : IsAccepted more graphs)
    → IsAcceptedWithin origin less (λ k. graphs (origin k)) (chosen_window a.choices)

-- a set has refined windows, none of them longer than that of the task's origin
pub record IsRefinedWithin (origin : ℕ → ℕ) (set : TaskSet) (graphs : ℕ → TaskGraph)
    (window : ℕ → ℕ) : Type 0 where
  pub tasks : List RefinedTask
  pub refined : AreRefined set graphs tasks
  pub no_longer : (k : ℕ) → k < length set.tasks → window_at tasks k ≤ window (origin k)

-- a set that has refined windows keeps them with looser times and without some of its tasks
abbrev pub RefinedSetsAreSustainable : Type 0
RefinedSetsAreSustainable =
    (origin : ℕ → ℕ) (less more : TaskSet) (graphs : ℕ → TaskGraph) (tasks : List RefinedTask) →
    HasTimes more → IsLooser origin less more → AreRefined more graphs tasks
    → IsRefinedWithin origin less (λ k. graphs (origin k)) (window_at tasks)
