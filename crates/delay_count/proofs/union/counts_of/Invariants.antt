use Rattle.std.proofs.Common.{◌≡◌, ℕ, ◌<◌, get_or, length}
use Rattle.delay_count.specs.Gamma.{count_at}
use Rattle.delay_count.proofs.union.counts_of.Given as goal

abbrev pub invariant-loop-k : goal.invariant-loop-k
invariant-loop-k g l = record {
  room : length l.counts ≡ 32;
  done : (k : ℕ) → k < l.k → get_or l.counts k 0 ≡ count_at l.lower k;
}
