-- Tasks whose loops have smaller bounds.
use Rattle.std.specs.Prelude.{ℕ, ◌<◌, ◌≤◌, length}
use Rattle.crpd_base.specs.Tasks.{HasTimes}
use Rattle.crpd_base.specs.declared.data.Platform.{Platform}
use Rattle.crpd_base.specs.declared.data.TaskSet.{TaskSet}
use Rattle.flat_graph.specs.Graph.{IsGraph}
use Rattle.loop_regions.specs.TaskGraph.{TaskGraph}
use Rattle.response.specs.Windows.{chosen_window}
use Rattle.sensitivity.specs.Accepted.{IsLeastBound, IsAccepted}
use Rattle.sensitivity.specs.Laws.{IsLoopBounded}
use Rattle.sustainability.specs.SetLaws.{IsAcceptedWithin}

-- the task's graph with these bounds of its regions
abbrev pub with_bounds : TaskGraph → (ℕ → ℕ) → TaskGraph
with_bounds t bounds = record t { nest = record t.nest { bound = bounds } }

-- no region's bound is larger
abbrev pub AreSmallerBounds : TaskGraph → (ℕ → ℕ) → (ℕ → ℕ) → Type 0
AreSmallerBounds t less more = (r : ℕ) → r < t.nest.size → less r ≤ more r

-- the bound of a task does not increase as the bounds of its loops decrease
abbrev pub BoundsAreSustainable : Type 0
BoundsAreSustainable =
    (p : Platform) (t : TaskGraph) (less more : ℕ → ℕ) (c e : ℕ) →
    IsGraph t.graph → AreSmallerBounds t less more →
    IsLeastBound p (with_bounds t less) c → IsLeastBound p (with_bounds t more) e → c ≤ e

-- a set that is accepted stays accepted with smaller bounds of its loops
abbrev pub LoopBoundsAreSustainable : Type 0
LoopBoundsAreSustainable =
    (set : TaskSet) (graphs : ℕ → TaskGraph) (bounds : ℕ → ℕ → ℕ) →
    HasTimes set → ((k : ℕ) → k < length set.tasks → IsLoopBounded (graphs k)) →
    ((k : ℕ) → k < length set.tasks
    → AreSmallerBounds (graphs k) (bounds k) (graphs k).nest.bound) →
    (a : IsAccepted set graphs)
    → IsAcceptedWithin (λ k. k) set (λ k. with_bounds (graphs k) (bounds k))
    (chosen_window a.choices)
