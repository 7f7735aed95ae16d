use Rattle.std.proofs.Common.{◌≡◌, ℕ, ◌<◌, ◌≤◌, ◌^◌, length, get_or, slice_index}
use Rattle.delay_count.specs.Gamma.{part_at}
use Rattle.delay_count.specs.Demand.{higher_demand}
use Rattle.response.proofs.bounds.higher_demands.Given as goal

abbrev pub invariant-loop-k : goal.invariant-loop-k
invariant-loop-k l = record {
  size : length l.higher ≡ 32;
  is : (k : ℕ) → k < l.k → get_or l.higher k 0
      ≡ higher_demand l.set (part_at l.parts) (slice_index l.windows) l.w l.method l.task.0 k;
  most : (k : ℕ) → k < l.k → get_or l.higher k 0 ≤ 2 ^ 113;
}
