-- The windows of a workload that is no more demanding than one with windows.
use Rattle.std.specs.Prelude.{ℕ, ◌<◌, ◌≤◌, ◌+◌, List, length}
use Rattle.crpd_base.specs.Tasks.{HasTimes, jitter_of}
use Rattle.delay_count.specs.Demand.{demand}
use Rattle.response.specs.declared.choice.Choice.{Choice}
use Rattle.response.specs.Windows.{AreAllChoices, chosen_window}
use Rattle.sustainability.specs.Workload.{Workload, IsNoMoreDemanding}

-- all tasks have these windows with the multiset delays, each the smaller of two
abbrev pub AreWindows : Workload → List Choice → Type 0
AreWindows load choices =
    AreAllChoices load.set (demand load.set load.parts load.longest) choices

-- all tasks have windows, none of them longer than that of the task's origin
pub record HasNoLongerWindows (origin : ℕ → ℕ) (load : Workload)
    (window : ℕ → ℕ) : Type 0 where
  pub choices : List Choice
  pub are : AreWindows load choices
  pub no_longer : (k : ℕ) → k < length load.set.tasks → chosen_window choices k ≤ window (origin k)

-- if all tasks of a set have windows, so have those of a workload that is no more demanding: what
-- is schedulable stays so with longer periods and deadlines, smaller jitters, bounds and costs,
-- fewer cache sets and fewer tasks, each by itself and all together
abbrev pub CertifiedWindowsAreSustainable : Type 0
CertifiedWindowsAreSustainable =
    (origin : ℕ → ℕ) (less more : Workload) (choices : List Choice) →
    HasTimes more.set → IsNoMoreDemanding origin less more → AreWindows more choices
    → HasNoLongerWindows origin less (chosen_window choices)

-- and no windows of it are longer, nor are the responses, which are windows with jitter
abbrev pub CertifiedWindowsAreNoLonger : Type 0
CertifiedWindowsAreNoLonger =
    (origin : ℕ → ℕ) (less more : Workload) (fewer choices : List Choice) (k : ℕ) →
    HasTimes more.set → IsNoMoreDemanding origin less more →
    AreWindows less fewer → AreWindows more choices → k < length less.set.tasks →
    (chosen_window fewer k ≤ chosen_window choices (origin k))
    × (chosen_window fewer k + jitter_of less.set k
    ≤ chosen_window choices (origin k) + jitter_of more.set (origin k))
