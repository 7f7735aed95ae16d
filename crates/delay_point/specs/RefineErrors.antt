-- When there are no refined windows.
use Rattle.std.specs.Prelude.{◌≡◌, ℕ, ◌<◌, List, length}
use Rattle.crpd_base.specs.declared.data.PointMethod.{PointMethod}
use Rattle.crpd_base.specs.declared.data.RefinedTask.{RefinedTask}
use Rattle.crpd_base.specs.declared.data.TaskSet.{TaskSet}
use Rattle.response.specs.Windows.{HasNoWindow}
use Rattle.loop_regions.specs.TaskGraph.{TaskGraph}
use Rattle.cert_build.specs.Certify.{IsFirstLarge}
use Rattle.delay_point.specs.Chosen.{RefinedParts, AreRefinedParts, bound_by}
use Rattle.delay_point.specs.Refined.{Needs, Bounds, AreFirstRefined, point_needs, window_at}
use Rattle.delay_point.specs.declared.error.RefineError.{RefineError}
use Rattle.delay_point.specs.declared.error.RefineError.TheVariants.{Memory, TooLarge}
use Rattle.delay_point.specs.declared.error.RefineError.TheVariants.{Unschedulable}

-- the tasks above i have their refined windows, and i has no window by any of the methods
pub record IsFirstUnrefined (set : TaskSet) (needs : Needs) (bounds : Bounds)
    (i : ℕ) : Type 0 where
  pub task : i < length set.tasks
  pub higher : List RefinedTask
  pub refined : AreFirstRefined set needs bounds i higher
  pub none : (m : PointMethod) → HasNoWindow set (needs (window_at higher) i m) i

-- when each refusal is given: out of memory at any time; a bound that is too large, for the first
-- such task, with the address of its entry; otherwise the first task without a window, if all
-- bounds are small enough
abbrev pub IsRefineError : TaskSet → (ℕ → TaskGraph) → RefineError → Type 0
IsRefineError set graphs Memory = Unit {0}
IsRefineError set graphs (TooLarge t address) =
    IsFirstLarge set graphs t.0 × (address ≡ (graphs t.0).places.address (graphs t.0).graph.first)
IsRefineError set graphs (Unschedulable t) =
    (parts : RefinedParts) × AreRefinedParts set graphs parts
    × IsFirstUnrefined set (point_needs set graphs parts) (bound_by parts) t.0
