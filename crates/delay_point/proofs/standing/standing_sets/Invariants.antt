-- A set that stands for the sets of the nodes, with what the tasks above j evict.
use Rattle.crpd_base.specs.Sets.{has}
use Rattle.std.proofs.Common.{length}
use Rattle.useful_sets.specs.Sets.{sets_at}
use Rattle.delay_count.specs.Gamma.{part_at}
use Rattle.delay_point.proofs.Stands.{IsStanding}
use Rattle.delay_point.proofs.standing.standing_sets.Given as goal

abbrev pub invariant-loop-j : goal.invariant-loop-j
invariant-loop-j l =
    IsStanding (part_at l.higher) (λ y. has (sets_at l.useful y)) (length l.useful) l.j
    (has l.known) (has l.standing)
