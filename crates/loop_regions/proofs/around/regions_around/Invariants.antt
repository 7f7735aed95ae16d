use Rattle.std.proofs.Common.{◌≡◌, ◌<◌, ℕ, length}
use Rattle.loop_regions.proofs.Rounds.{IsRoundBelow}
use Rattle.loop_regions.specs.Inner.Heads.{nodes_of}
use Rattle.loop_regions.proofs.around.regions_around.Given as goal

abbrev pub invariant-loop-y : goal.invariant-loop-y
invariant-loop-y l =
    (length l.rows.items ≡ length (nodes_of l.regions.heads))
    × ((r s : ℕ) → r < length (nodes_of l.regions.heads)
    → IsRoundBelow (nodes_of l.regions.heads) l.regions.holders l.rows.items l.y r s)
