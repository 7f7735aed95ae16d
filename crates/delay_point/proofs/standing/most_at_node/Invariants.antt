use Rattle.std.proofs.Common.{◌≡◌}
use Rattle.crpd_base.specs.Sets.{has}
use Rattle.useful_sets.specs.Sets.{sets_at}
use Rattle.delay_point.specs.Gamma.{most_shared}
use Rattle.delay_point.proofs.standing.most_at_node.Given as goal

abbrev pub invariant-loop-sets : goal.invariant-loop-sets
invariant-loop-sets l =
    l.most ≡ most_shared (λ y. has (sets_at l.useful y)) (has l.evicted) l.sets-index
