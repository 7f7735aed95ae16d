use Rattle.std.proofs.Common.{◌≡◌, ◌<◌, ℕ, None, length, get_or}
use Rattle.loop_regions.specs.Inner.FoundRegions.{nest_in}
use Rattle.loop_regions.specs.Levels.{IsParent}
use Rattle.loop_regions.proofs.nested.parents.Given as goal

abbrev pub invariant-loop-r : goal.invariant-loop-r
invariant-loop-r l =
    (length l.parents.items ≡ l.r)
    × ((z : ℕ) → z < l.r → IsParent (nest_in l.regions) z (get_or l.parents.items z None))
