use Rattle.std.proofs.Common.{◌≡◌, ◌+◌, ◌*◌, ◌<◌, ◌≤◌, length, slice_index}
use Rattle.delay_count.specs.Gamma.{count_at}
use Rattle.delay_count.specs.Inner.Filling.{sum_from_value, worth_from}
use Rattle.delay_count.proofs.choice.gamma_ecb.Given as goal

abbrev pub invariant-loop-values : goal.invariant-loop-values
invariant-loop-values g l = record {
  some : 0 < l.level;
  least : l.level ≤ 65537;
  worth : l.charged ≡ worth_from (slice_index l.values) (count_at l.lower) l.level (length l.lower);
  left : sum_from_value (slice_index l.values) (count_at l.lower) l.level (length l.lower) + l.room
      ≡ l.jobs;
  bound : l.charged + 65536 * l.room ≤ 65536 * l.jobs;
}

abbrev pub decreases-loop-values : goal.decreases-loop-values
decreases-loop-values g l = l.level
