-- The windows by stored parts.
use Rattle.std.specs.Prelude.{ℕ, ◌+◌, List, Option, Some, None, nat_lt, if◌then◌else◌}
use Rattle.crpd_base.specs.Tasks.{jitter_of}
use Rattle.crpd_base.specs.declared.data.Method.{Method}
use Rattle.crpd_base.specs.declared.data.Method.TheVariants as multiset
use Rattle.crpd_base.specs.declared.data.Part.{Part}
use Rattle.crpd_base.specs.declared.data.PointMethod.{PointMethod}
use Rattle.crpd_base.specs.declared.data.PointMethod.TheVariants.{Ucb, Ecb, Point}
use Rattle.crpd_base.specs.declared.data.PointMethod.TheVariants.{PersistentUcb, PersistentPoint}
use Rattle.crpd_base.specs.declared.data.RefinedTask.{RefinedTask}
use Rattle.crpd_base.specs.declared.data.TaskSet.{TaskSet}
use Rattle.delay_count.specs.Demand.{demand}
use Rattle.delay_count.specs.Gamma.{part_at}
use Rattle.delay_point.specs.Refined.{Needs, Bounds}
use Rattle.delay_point.specs.RefineErrors.{IsFirstUnrefined}
use Rattle.delay_point.specs.declared.error.RefineError.{RefineError}
use Rattle.delay_point.specs.declared.error.RefineError.TheVariants.{Memory, TooLarge}
use Rattle.delay_point.specs.declared.error.RefineError.TheVariants.{Unschedulable}
use Rattle.delay_point.specs.declared.windows.PointChoice.{PointChoice}

-- the multiset delay by which a method counts its parts: with standing sets ECB-union
abbrev pub multiset_of : PointMethod → Method
multiset_of Ucb = multiset.Ucb
multiset_of Ecb = multiset.Ecb
multiset_of Point = multiset.Ecb
multiset_of PersistentUcb = multiset.Ucb
multiset_of PersistentPoint = multiset.Ecb

-- the demands by the parts that each method counts
abbrev pub counted_needs : TaskSet → (PointMethod → List Part) → (ℕ → ℕ) → Needs
counted_needs set lists longest window i m =
    demand set (part_at (lists m)) longest window i (multiset_of m)

-- and the bounds
abbrev pub counted_bounds : (PointMethod → List Part) → Bounds
counted_bounds lists i m = (part_at (lists m) i).bound

-- when there are no windows by some demands: out of memory, or the first task without one
abbrev pub HasNoRefined : TaskSet → Needs → Bounds → RefineError → Type 0
HasNoRefined set needs bounds Memory = Unit {0}
HasNoRefined set needs bounds (TooLarge t address) = ⊥
HasNoRefined set needs bounds (Unschedulable t) = IsFirstUnrefined set needs bounds t.0

-- the shorter of the best window so far and one by a method; if they are equal, the one so far
abbrev pub shorter_of : Option PointChoice → PointMethod → Option ℕ → Option PointChoice
shorter_of best m None = best
shorter_of None m (Some w) = Some (record { window = w; method = m })
shorter_of (Some c) m (Some w) =
    if nat_lt w c.window then Some (record { window = w; method = m }) else Some c

-- the result for task i with a window
abbrev pub told_of : TaskSet → (PointMethod → List Part) → ℕ → PointChoice → RefinedTask
told_of set lists i c =
    record {
      bound = (part_at (lists c.method) i).bound;
      window = c.window;
      response = c.window + jitter_of set i;
      method = c.method;
    }
