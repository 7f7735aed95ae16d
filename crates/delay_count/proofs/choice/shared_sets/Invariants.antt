use Rattle.std.proofs.Common.{◌≡◌, ℕ, ◌*◌, ◌<◌, get_or, length}
use Rattle.crpd_base.specs.Sets.{has}
use Rattle.delay_count.specs.Gamma.{useful_at, shared_count}
use Rattle.delay_count.proofs.choice.shared_sets.Given as goal

abbrev pub invariant-loop-k : goal.invariant-loop-k
invariant-loop-k g l = record {
  room : length l.values ≡ 32;
  done : (k : ℕ) → k < l.k
      → get_or l.values k 0 ≡ shared_count (useful_at l.lower k) (has l.evicting_up) (64 * g.row.W);
}
