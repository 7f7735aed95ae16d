use Rattle.std.proofs.Common.{◌≡◌, drop, find}
use Rattle.flow_watch.specs.Watch.{in_range}
use Rattle.flow_watch.proofs.loops.range_around.Given as goal

abbrev pub invariant-loop-range : goal.invariant-loop-range
invariant-loop-range l =
    find (in_range l.address) l.stated.ranges
    ≡ find (in_range l.address) (drop l.range-index l.stated.ranges)
