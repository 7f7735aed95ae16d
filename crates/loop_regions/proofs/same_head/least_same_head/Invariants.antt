use Rattle.loop_regions.specs.Inner.Least.{IsLeastNumber}
use Rattle.loop_regions.proofs.SameHeads.{IsSameBelow}
use Rattle.loop_regions.proofs.same_head.least_same_head.Given as goal

abbrev pub invariant-loop-j : goal.invariant-loop-j
invariant-loop-j l = IsLeastNumber (IsSameBelow l.loops l.j) l.least
