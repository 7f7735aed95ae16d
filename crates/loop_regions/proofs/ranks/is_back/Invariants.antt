use Rattle.std.proofs.Common.{take, IsFalse}
use Rattle.std.specs.List.{list_any}
use Rattle.loop_regions.specs.Inner.FoundRegions.{is_head}
use Rattle.loop_regions.specs.Inner.Heads.{nodes_of}
use Rattle.loop_regions.proofs.ranks.is_back.Given as goal

abbrev pub invariant-loop-r : goal.invariant-loop-r
invariant-loop-r l = IsFalse (list_any (is_head (nodes_of l.regions.heads) l.v) (take l.r-index l.around))
