use Rattle.std.proofs.Common.{◌≡◌, ◌*◌, length}
use Rattle.crpd_base.specs.Sets.{has}
use Rattle.delay_count.specs.Gamma.{union_count, useful_at, count_at}
use Rattle.delay_count.proofs.union.gamma_ucb.Given as goal

abbrev pub invariant-loop-place : goal.invariant-loop-place
invariant-loop-place g l =
    l.charged ≡ union_count l.jobs (has l.evicting) (useful_at l.lower) (count_at l.lower)
    (length l.lower) (64 * l.place)
