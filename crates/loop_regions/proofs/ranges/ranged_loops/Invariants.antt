use Rattle.std.proofs.Common.{◌≡◌, take}
use Rattle.loop_regions.proofs.ranges.ranged_loops.Given as goal

abbrev pub invariant-loop-stated : goal.invariant-loop-stated
invariant-loop-stated l = l.ranged.items ≡ take l.stated-index l.loops
