use Rattle.std.proofs.Common.{take, IsFalse}
use Rattle.std.specs.List.{list_any}
use Rattle.loop_regions.specs.Inner.FoundRegions.{lie_across}
use Rattle.loop_regions.proofs.nested.lies_across_any.Given as goal

abbrev pub invariant-loop-s : goal.invariant-loop-s
invariant-loop-s l = IsFalse (list_any (lie_across l.around l.r) (take l.s-index l.among))
