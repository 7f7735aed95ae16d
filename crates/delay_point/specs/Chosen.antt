-- The parts of the tasks that refined windows count: the plain ones of the analysis, and the chosen
-- ones.
use Rattle.std.specs.Prelude.{◌≡◌, ◌⊎◌, ℕ, ◌<◌, ◌≤◌, Bool, List, length}
use Rattle.crpd_base.specs.declared.data.Part.{Part}
use Rattle.crpd_base.specs.declared.data.Platform.{Platform}
use Rattle.crpd_base.specs.declared.data.PointMethod.{PointMethod}
use Rattle.crpd_base.specs.declared.data.PointMethod.TheVariants.{Ucb, Ecb, Point}
use Rattle.crpd_base.specs.declared.data.PointMethod.TheVariants.{PersistentUcb, PersistentPoint}
use Rattle.crpd_base.specs.declared.data.TaskPart.{TaskPart}
use Rattle.crpd_base.specs.declared.data.TaskSet.{TaskSet}
use Rattle.loop_regions.specs.TaskGraph.{TaskGraph}
use Rattle.cert_build.specs.Certify.{part_in, AreBestParts}
use Rattle.persistent_blocks.specs.PersistentPart.{IsPersistentPart, IsPersistentBound}
use Rattle.delay_point.specs.Gamma.{SetsAtNodes, AreUsefulSets}

-- a part of each task, and the sets that are useful at its nodes
pub record TaskParts : Type 0 where
  pub part : ℕ → Part
  pub useful : SetsAtNodes

-- a task's persistent part, with a bound that is smaller than that of its plain part
pub record IsSmallerPart (p : Platform) (t : TaskGraph) (plain part : Part)
    (sets : ℕ → ℕ → Bool) : Type 0 where
  pub persistent : IsPersistentPart p t part sets
  pub smaller : part.bound < plain.bound

-- its plain part and the sets that are useful by it, where the persistent bound is not smaller
pub record IsPlainPart (p : Platform) (t : TaskGraph) (plain : Part) (useful : ℕ → ℕ → Bool)
    (part : Part) (sets : ℕ → ℕ → Bool) : Type 0 where
  pub bound : ℕ
  pub persistent : IsPersistentBound p t bound
  pub no_smaller : plain.bound ≤ bound
  pub part_is : part ≡ plain
  pub sets_are : (y s : ℕ) → y < t.graph.size → sets y s ≡ useful y s

-- its chosen part: the persistent one if its bound is smaller, otherwise the plain one
abbrev pub IsChosen : Platform → TaskGraph → Part → (ℕ → ℕ → Bool) → Part → (ℕ → ℕ → Bool) → Type 0
IsChosen p t plain useful part sets =
    IsSmallerPart p t plain part sets ⊎ IsPlainPart p t plain useful part sets

-- the chosen parts of all tasks, from the plain ones
abbrev pub AreChosen : TaskSet → (ℕ → TaskGraph) → TaskParts → TaskParts → Type 0
AreChosen set graphs plain chosen =
    (k : ℕ) → k < length set.tasks
    → IsChosen set.platform (graphs k) (plain.part k) (plain.useful k) (chosen.part k)
    (chosen.useful k)

-- parts by which windows are refined: those of the analysis, with the sets that are useful at their
-- nodes, and the chosen ones
pub record RefinedParts : Type 0 where
  pub analysed : List TaskPart
  pub useful : SetsAtNodes
  pub chosen : TaskParts

-- the plain parts
abbrev pub plain_parts : RefinedParts → TaskParts
plain_parts parts = record { part = part_in parts.analysed; useful = parts.useful }

-- the parts of a task set with its graphs
pub record AreRefinedParts (set : TaskSet) (graphs : ℕ → TaskGraph)
    (parts : RefinedParts) : Type 0 where
  pub best : AreBestParts set graphs parts.analysed
  pub useful : AreUsefulSets set graphs parts.useful
  pub chosen : AreChosen set graphs (plain_parts parts) parts.chosen

-- the parts of all tasks that a window by a method counts
abbrev pub parts_by : RefinedParts → PointMethod → TaskParts
parts_by parts Ucb = plain_parts parts
parts_by parts Ecb = plain_parts parts
parts_by parts Point = plain_parts parts
parts_by parts PersistentUcb = parts.chosen
parts_by parts PersistentPoint = parts.chosen

-- the bound of a task's part for a method
abbrev pub bound_by : RefinedParts → ℕ → PointMethod → ℕ
bound_by parts i method = ((parts_by parts method).part i).bound
