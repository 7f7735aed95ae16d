-- Of the evicted sets so far that are not known, up to the limit.
use Rattle.crpd_base.specs.Sets.{has}
use Rattle.delay_point.proofs.Further.{IsFilled}
use Rattle.delay_point.proofs.standing.with_further.Given as goal

abbrev pub invariant-loop-s : goal.invariant-loop-s
invariant-loop-s l =
    IsFilled (has l.standing) (has l.known) (has l.evicted) l.most l.s l.count (has l.sets)
