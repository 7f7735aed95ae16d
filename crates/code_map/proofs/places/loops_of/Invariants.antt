use Rattle.std.proofs.Common.{◌≡◌, drop}
use Rattle.crpd_base.proofs.Results.{with_front}
use Rattle.crpd_base.specs.Outcome.{each}
use Rattle.code_map.specs.Places.{loop_of}
use Rattle.code_map.proofs.places.loops_of.Given as goal

abbrev pub invariant-loop-spec : goal.invariant-loop-spec
invariant-loop-spec l =
    with_front l.loops.items (each (loop_of l.task l.names) (drop l.spec-index l.specs))
    ≡ each (loop_of l.task l.names) l.specs
