use Rattle.std.proofs.Common.{◌≡◌, ℕ, ◌<◌, ◌≤◌, ◌^◌, length, get_or, slice_index}
use Rattle.delay_count.specs.Gamma.{part_at}
use Rattle.delay_count.specs.Rates.{IsRate, CountsJobs}
use Rattle.response.proofs.bounds.slopes.Given as goal

abbrev pub invariant-loop-k : goal.invariant-loop-k
invariant-loop-k l = record {
  size : length l.slopes ≡ 32;
  flat : (k : ℕ) → k < l.k → get_or l.slopes k 0 ≤ 2 ^ 80;
  counts : (k : ℕ) → k < l.k → CountsJobs l.set (part_at l.parts) k (get_or l.slopes k 0);
  slopes : (k : ℕ) → k < l.k
      → IsRate l.set (part_at l.parts) (slice_index l.windows) l.method l.task.0 k
      (get_or l.slopes k 0);
}
