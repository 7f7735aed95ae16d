use Rattle.std.proofs.Common.{◌≡◌, ◌≤◌, ◌-◌, ◌^◌, slice_index}
use Rattle.delay_count.specs.Demand.{greatest_from}
use Rattle.delay_count.proofs.window_demand.longest_from.Given as goal

abbrev pub invariant-loop-k : goal.invariant-loop-k
invariant-loop-k l = record {
  is : l.most ≡ greatest_from (λ k. slice_index l.longest k - 1) l.i l.k;
  most : l.most ≤ 2 ^ 20;
}
