use Rattle.std.proofs.Common.{◌≡◌, ◌<◌, ℕ, None, length, get_or}
use Rattle.loop_regions.specs.Inner.FoundRegions.{nest_in}
use Rattle.loop_regions.specs.Levels.{IsLevel}
use Rattle.loop_regions.proofs.nested.levels.Given as goal

abbrev pub invariant-loop-y : goal.invariant-loop-y
invariant-loop-y l =
    (length l.levels.items ≡ l.y)
    × ((z : ℕ) → z < l.y → IsLevel (nest_in l.regions) z (get_or l.levels.items z None))
