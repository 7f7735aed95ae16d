use Rattle.std.proofs.Common.{◌≡◌, ◌≤◌, ◌+◌, ◌*◌, ◌^◌, slice_index}
use Rattle.crpd_base.specs.Sum.{sum_below}
use Rattle.response.proofs.bounds.total.Given as goal

abbrev pub invariant-loop-k : goal.invariant-loop-k
invariant-loop-k l = record {
  is : l.total ≡ l.own + sum_below (slice_index l.higher) l.k;
  most : l.total ≤ 2 ^ 66 + l.k * 2 ^ 113;
}
