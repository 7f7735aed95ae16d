use Rattle.std.proofs.Common.{◌≡◌, ◌<◌, ℕ, length}
use Rattle.loop_regions.specs.CodeNest.{row}
use Rattle.loop_regions.specs.Inner.FoundRegions.{nest_in}
use Rattle.loop_regions.proofs.around.at_heads.Given as goal

abbrev pub invariant-loop-head : goal.invariant-loop-head
invariant-loop-head l =
    (length l.rows.items ≡ l.head-index)
    × ((r : ℕ) → r < l.head-index
    → row l.rows.items r ≡ row l.regions.holders ((nest_in l.regions).head r))
