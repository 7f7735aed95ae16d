use Rattle.std.proofs.Common.{◌<◌, ℕ, IsFalse}
use Rattle.loop_regions.specs.CodeNest.{row}
use Rattle.loop_regions.specs.Inner.FoundRegions.{are_across}
use Rattle.loop_regions.proofs.nested.not_nested.Given as goal

abbrev pub invariant-loop-y : goal.invariant-loop-y
invariant-loop-y l = (z : ℕ) → z < l.y → IsFalse (are_across l.around (row l.regions.holders z))
