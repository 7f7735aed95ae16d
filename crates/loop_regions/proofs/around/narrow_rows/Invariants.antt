use Rattle.std.proofs.Common.{◌≡◌, ℕ, length, take}
use Rattle.loop_regions.proofs.Rounds.{IsNarrowed}
use Rattle.loop_regions.proofs.around.narrow_rows.Given as goal

abbrev pub invariant-loop-r : goal.invariant-loop-r
invariant-loop-r l =
    (length l.rows.items ≡ length l.initial.rows.items)
    × ((r s : ℕ) → IsNarrowed l.initial.rows.items l.rows.items (take l.r-index l.holders)
    l.holders r s)
