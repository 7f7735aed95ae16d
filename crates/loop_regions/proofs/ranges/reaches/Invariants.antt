use Rattle.loop_regions.specs.Inner.Ranges.{IsReach, AreReaches}
use Rattle.loop_regions.proofs.ranges.reaches.Given as goal

abbrev pub invariant-loop-range : goal.invariant-loop-range
invariant-loop-range l = record {
  reach : IsReach l.ranges l.range-index l.greatest;
  reaches : AreReaches l.ranges l.reaches.items l.range-index;
}
