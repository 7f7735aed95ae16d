use Rattle.std.proofs.Common.{◌≡◌, ℕ, ◌<◌, length, slice_index}
use Rattle.crpd_base.specs.Sets.{has}
use Rattle.delay_count.specs.Counts.{affected_preemptions}
use Rattle.delay_count.specs.Gamma.{count_at, useful_at, part_at}
use Rattle.delay_count.proofs.jobs.affected_shares.Given as goal

abbrev pub invariant-loop-k : goal.invariant-loop-k
invariant-loop-k l = record {
  room : length l.shares ≡ 32;
  counts : (k : ℕ) → k < l.k
      → count_at l.shares k ≡ affected_preemptions l.set (slice_index l.windows) l.window l.i l.j k;
  useful : (k c : ℕ) → k < l.k → useful_at l.shares k c ≡ has (part_at l.parts k).useful c;
}
