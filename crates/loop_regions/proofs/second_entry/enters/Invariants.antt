use Rattle.std.proofs.Common.{take, IsFalse, not, ◌&&◌}
use Rattle.std.specs.List.{list_any}
use Rattle.loop_regions.specs.CodeNest.{has, row}
use Rattle.loop_regions.specs.Inner.FoundRegions.{is_head}
use Rattle.loop_regions.specs.Inner.Heads.{nodes_of}
use Rattle.loop_regions.proofs.second_entry.enters.Given as goal

abbrev pub invariant-loop-r : goal.invariant-loop-r
invariant-loop-r l =
    IsFalse
    (list_any (λ q. not (is_head (nodes_of l.regions.heads) l.v q) && not (has (row l.regions.holders l.u) q))
    (take l.r-index l.around))
