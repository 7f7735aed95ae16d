-- The refined windows of a workload that is no more demanding than one with refined windows.
use Rattle.std.specs.Prelude.{ℕ, ◌+◌, ◌<◌, ◌≤◌, List, length}
use Rattle.crpd_base.specs.Tasks.{HasTimes, jitter_of}
use Rattle.crpd_base.specs.declared.data.RefinedTask.{RefinedTask}
use Rattle.delay_point.specs.Refined.{AreRefinedBy, window_at}
use Rattle.sustainability.specs.RefinedWorkload.{RefinedWorkload, IsNoMoreDemandingAtNodes}

-- the refined windows of all tasks, each the smallest by five methods
abbrev pub AreRefinedWindows : RefinedWorkload → List RefinedTask → Type 0
AreRefinedWindows load tasks = AreRefinedBy load.set load.graphs load.parts tasks

-- all tasks have refined windows, none of them longer than that of the task's origin
pub record HasNoLongerRefined (origin : ℕ → ℕ) (load : RefinedWorkload)
    (window : ℕ → ℕ) : Type 0 where
  pub tasks : List RefinedTask
  pub are : AreRefinedWindows load tasks
  pub no_longer : (k : ℕ) → k < length load.set.tasks → window_at tasks k ≤ window (origin k)

-- if all tasks of a set have refined windows, so have those of a workload that is no more demanding
abbrev pub RefinedWindowsAreSustainable : Type 0
RefinedWindowsAreSustainable =
    (origin : ℕ → ℕ) (less more : RefinedWorkload) (tasks : List RefinedTask) →
    HasTimes more.set → IsNoMoreDemandingAtNodes origin less more → AreRefinedWindows more tasks
    → HasNoLongerRefined origin less (window_at tasks)

-- and no refined windows of it are longer, nor are the responses, which are windows with jitter
abbrev pub RefinedWindowsAreNoLonger : Type 0
RefinedWindowsAreNoLonger =
    (origin : ℕ → ℕ) (less more : RefinedWorkload) (fewer tasks : List RefinedTask) (k : ℕ) →
    HasTimes more.set → IsNoMoreDemandingAtNodes origin less more →
    AreRefinedWindows less fewer → AreRefinedWindows more tasks → k < length less.set.tasks →
    (window_at fewer k ≤ window_at tasks (origin k))
    × (window_at fewer k + jitter_of less.set k
    ≤ window_at tasks (origin k) + jitter_of more.set (origin k))
