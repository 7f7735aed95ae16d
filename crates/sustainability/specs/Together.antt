-- All changes of an accepted set together.
use Rattle.std.specs.Prelude.{ℕ, ◌<◌, ◌≤◌, length}
use Rattle.crpd_base.specs.Tasks.{HasTimes}
use Rattle.crpd_base.specs.declared.data.TaskSet.{TaskSet}
use Rattle.loop_regions.specs.TaskGraph.{TaskGraph}
use Rattle.response.specs.Windows.{chosen_window}
use Rattle.sensitivity.specs.Accepted.{IsAccepted}
use Rattle.sensitivity.specs.Costs.{with_costs}
use Rattle.sensitivity.specs.Laws.{IsLoopBounded}
use Rattle.sustainability.specs.Workload.{IsLooser}
use Rattle.sustainability.specs.SetLaws.{IsAcceptedWithin}
use Rattle.sustainability.specs.LoopBounds.{with_bounds, AreSmallerBounds}

-- a set and its code, with these costs of a switch and of a reload and these bounds of loops, none
-- of them larger
pub record AreNoLarger (set : TaskSet) (graphs : ℕ → TaskGraph) (switch miss : ℕ)
    (bounds : ℕ → ℕ → ℕ) : Type 0 where
  pub switches : switch ≤ set.platform.switch
  pub misses : miss ≤ set.platform.miss
  pub loops : (k : ℕ) → k < length set.tasks
      → AreSmallerBounds (graphs k) (bounds k) (graphs k).nest.bound

-- a set that is accepted stays accepted with these, with looser times and without some of its tasks
abbrev pub AcceptanceIsSustainable : Type 0
AcceptanceIsSustainable =
    (origin : ℕ → ℕ) (less more : TaskSet) (graphs : ℕ → TaskGraph) (switch miss : ℕ)
    (bounds : ℕ → ℕ → ℕ) →
    HasTimes more → ((k : ℕ) → k < length more.tasks → IsLoopBounded (graphs k)) →
    AreNoLarger more graphs switch miss bounds →
    IsLooser origin less (with_costs more switch miss) → (a : IsAccepted more graphs)
    → IsAcceptedWithin origin less (λ k. with_bounds (graphs (origin k)) (bounds (origin k)))
    (chosen_window a.choices)
