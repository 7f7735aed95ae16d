use Rattle.std.proofs.Common.{◌≡◌, drop}
use Rattle.crpd_base.proofs.Results.{with_front}
use Rattle.crpd_base.specs.Outcome.{each}
use Rattle.code_map.specs.Places.{range_of}
use Rattle.code_map.proofs.places.ranges_of.Given as goal

abbrev pub invariant-loop-range : goal.invariant-loop-range
invariant-loop-range l =
    with_front l.found.items (each (range_of l.task l.names) (drop l.range-index l.ranges))
    ≡ each (range_of l.task l.names) l.ranges
