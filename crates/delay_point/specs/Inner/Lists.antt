-- The stored parts of all tasks.
use Rattle.std.specs.Prelude.{◌≡◌, ℕ, ◌<◌, List, length}
use Rattle.crpd_base.specs.declared.data.Part.{Part}
use Rattle.crpd_base.specs.declared.data.PointMethod.{PointMethod}
use Rattle.crpd_base.specs.declared.data.PointMethod.TheVariants.{Ucb, Ecb, Point}
use Rattle.crpd_base.specs.declared.data.PointMethod.TheVariants.{PersistentUcb, PersistentPoint}
use Rattle.crpd_base.specs.declared.data.TaskSet.{TaskSet}
use Rattle.loop_regions.specs.TaskGraph.{TaskGraph}
use Rattle.delay_count.specs.Gamma.{part_at}
use Rattle.delay_point.specs.Inner.Standing.{IsPointPart, IsChosenPoint}
use Rattle.delay_point.specs.declared.parts.PointParts.{PointParts}

-- the parts of the first n tasks: the plain and the chosen ones, and both with standing sets
pub record ArePointParts (set : TaskSet) (graphs : ℕ → TaskGraph) (n : ℕ)
    (parts points chosen chosen_points : List Part) : Type 0 where
  pub parts_size : length parts ≡ n
  pub points_size : length points ≡ n
  pub chosen_size : length chosen ≡ n
  pub chosen_points_size : length chosen_points ≡ n
  pub plain : (k : ℕ) → k < n → IsPointPart set.platform (graphs k) (part_at parts) k
      (part_at parts k) (part_at points k)
  pub least : (k : ℕ) → k < n → IsChosenPoint set.platform (graphs k) (part_at parts) k
      (part_at parts k) (part_at points k) (part_at chosen k) (part_at chosen_points k)

-- of stored parts
abbrev pub AreStored : TaskSet → (ℕ → TaskGraph) → ℕ → PointParts → Type 0
AreStored set graphs n all =
    ArePointParts set graphs n all.parts.items all.points.items all.chosen.items
    all.chosen_points.items

-- the parts of all tasks that a window by a method counts
abbrev pub list_by : PointParts → PointMethod → List Part
list_by all Ucb = all.parts.items
list_by all Ecb = all.parts.items
list_by all Point = all.points.items
list_by all PersistentUcb = all.chosen.items
list_by all PersistentPoint = all.chosen_points.items

-- there are n of each
abbrev pub HaveSize : PointParts → ℕ → Type 0
HaveSize all n = (m : PointMethod) → length (list_by all m) ≡ n
