use Rattle.std.proofs.Common.{take, IsFalse}
use Rattle.std.specs.List.{list_any}
use Rattle.loop_regions.specs.Inner.FoundRegions.{lie_across}
use Rattle.loop_regions.proofs.nested.are_across.Given as goal

abbrev pub invariant-loop-r : goal.invariant-loop-r
invariant-loop-r l =
    IsFalse (list_any (λ r. list_any (lie_across l.around r) l.among) (take l.r-index l.among))
