use Rattle.std.proofs.Common.{take}
use Rattle.loop_regions.proofs.Lines.{IsBest}
use Rattle.loop_regions.proofs.nested.innermost.Given as goal

abbrev pub invariant-loop-r : goal.invariant-loop-r
invariant-loop-r l = IsBest l.around l.among (take l.r-index l.among) l.besides l.best
