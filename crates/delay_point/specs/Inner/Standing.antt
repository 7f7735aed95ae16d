-- Sets of cache sets that stand for the most that is shared at a node.
use Rattle.std.specs.Prelude.{◌≡◌, ◌⊎◌, ℕ, ◌<◌, ◌≤◌, Bool, IsTrue, ◌↔◌}
use Rattle.crpd_base.specs.Limits.{most_sets}
use Rattle.crpd_base.specs.Sets.{has}
use Rattle.crpd_base.specs.declared.data.Part.{Part}
use Rattle.crpd_base.specs.declared.data.Platform.{Platform}
use Rattle.crpd_base.specs.declared.data.TaskSet.{TaskSet}
use Rattle.useful_sets.specs.Useful.{Useful}
use Rattle.loop_regions.specs.TaskGraph.{TaskGraph}
use Rattle.delay_count.specs.Gamma.{evicted_from, shared_count}
use Rattle.cert_check.specs.JudgeInput.{accesses_of}
use Rattle.cert_build.specs.Analysis.{IsAnalysis, HasLargeBound}
use Rattle.cert_build.specs.declared.one_task.Analysis.{Analysis}
use Rattle.persistent_blocks.specs.PersistentPart.{IsPersistentBound}
use Rattle.delay_point.specs.Chosen.{IsSmallerPart}
use Rattle.delay_point.specs.Gamma.{most_shared}
use Rattle.delay_point.specs.RefineErrors.{IsRefineError}
use Rattle.delay_point.specs.declared.error.RefineError.{RefineError}
use Rattle.delay_point.specs.declared.error.RefineError.TheVariants.{Memory, TooLarge}
use Rattle.delay_point.specs.declared.error.RefineError.TheVariants.{Unschedulable}

-- for each of the first tasks: with what it and those above it evict, the standing set shares the
-- most that one of the first n sets does
abbrev pub StandsFor : (ℕ → Part) → ℕ → (ℕ → ℕ → Bool) → ℕ → (ℕ → Bool) → Type 0
StandsFor parts tasks sets n standing =
    (j : ℕ) → j < tasks → shared_count standing (evicted_from parts j) most_sets
    ≡ most_shared sets (evicted_from parts j) n

-- a part of a task with k higher ones, and the same with a set that stands for the useful ones of
-- its nodes
pub record HasPoint (nodes : ℕ) (higher : ℕ → Part) (k : ℕ) (own point : Part)
    (useful : ℕ → ℕ → Bool) : Type 0 where
  pub bound : point.bound ≡ own.bound
  pub evicting : point.evicting ≡ own.evicting
  pub stands : StandsFor higher k useful nodes (has point.useful)

-- both by the analysis
pub record IsPointPart (p : Platform) (t : TaskGraph) (higher : ℕ → Part) (k : ℕ)
    (own point : Part) : Type 0 where
  pub analysis : Analysis
  pub is : IsAnalysis p t analysis
  pub part : own ≡ analysis.part
  pub useful : ℕ → ℕ → Bool
  pub exact : (y c : ℕ) → y < t.graph.size
      → IsTrue (useful y c) ↔ Useful t.graph (accesses_of p t) y c
  pub standing : HasPoint t.graph.size higher k own point useful

-- both with persistent blocks, with a bound that is smaller than that of the plain part
pub record IsSmallerPoint (p : Platform) (t : TaskGraph) (higher : ℕ → Part) (k : ℕ)
    (plain own point : Part) : Type 0 where
  pub sets : ℕ → ℕ → Bool
  pub is : IsSmallerPart p t plain own sets
  pub standing : HasPoint t.graph.size higher k own point sets

-- both as they are, if the persistent bound is not smaller
pub record KeepsPoint (p : Platform) (t : TaskGraph) (plain standing own point : Part) : Type 0 where
  pub bound : ℕ
  pub persistent : IsPersistentBound p t bound
  pub no_smaller : plain.bound ≤ bound
  pub part_is : own ≡ plain
  pub point_is : point ≡ standing

-- the chosen part
abbrev pub IsChosenPoint : Platform → TaskGraph → (ℕ → Part) → ℕ → Part → Part → Part → Part → Type 0
IsChosenPoint p t higher k plain standing own point =
    IsSmallerPoint p t higher k plain own point ⊎ KeepsPoint p t plain standing own point

-- the parts of one task
pub record AreTaskPoints (p : Platform) (t : TaskGraph) (higher : ℕ → Part) (k : ℕ)
    (own point least least_point : Part) : Type 0 where
  pub plain : IsPointPart p t higher k own point
  pub chosen : IsChosenPoint p t higher k own point least least_point

-- when one task has none: out of memory, or a bound that is too large
abbrev pub IsTaskRefusal : Platform → TaskGraph → ℕ → RefineError → Type 0
IsTaskRefusal p t task Memory = Unit {0}
IsTaskRefusal p t task (TooLarge named address) =
    (named.0 ≡ task) × HasLargeBound p t × (address ≡ t.places.address t.graph.first)
IsTaskRefusal p t task (Unschedulable named) = ⊥

-- when there are none: the refusals of a set other than those of a window
abbrev pub HaveNoPointParts : TaskSet → (ℕ → TaskGraph) → RefineError → Type 0
HaveNoPointParts set graphs (Unschedulable t) = ⊥
HaveNoPointParts set graphs e = IsRefineError set graphs e
