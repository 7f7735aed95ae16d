use Rattle.std.proofs.Common.{◌≡◌, ◌≤◌, ℕ, ◌<◌, ◌+◌, ◌*◌, ◌^◌, max, slice_index}
use Rattle.crpd_base.specs.Sum.{sum_below}
use Rattle.response.proofs.bounds.next_bound.Given as goal

abbrev pub invariant-loop-k : goal.invariant-loop-k
invariant-loop-k l = record {
  few : l.fixed ≤ l.own + sum_below (slice_index l.higher) l.k;
  splits : l.fixed * 2 ^ 80 + l.slope * l.bound
      ≡ l.own * 2 ^ 80 + sum_below
      (λ k. max (slice_index l.higher k * 2 ^ 80) (slice_index l.slopes k * l.bound)) l.k;
  own : l.own ≤ l.fixed;
  flat : l.slope ≤ l.k * 2 ^ 80;
  lower : (w : ℕ) (takes : ℕ → ℕ) → ((k : ℕ) → k < l.fn.task.0 → slice_index l.higher k ≤ takes k)
      → ((k : ℕ) → k < l.fn.task.0 → slice_index l.slopes k * w ≤ takes k * 2 ^ 80)
      → l.fixed * 2 ^ 80 + l.slope * w ≤ (l.own + sum_below takes l.k) * 2 ^ 80;
}
