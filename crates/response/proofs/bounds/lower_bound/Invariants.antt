use Rattle.std.proofs.Common.{◌+◌, ◌-◌, ◌≤◌, ◌^◌, slice_index}
use Rattle.response.specs.Inner.LowerBounds.{IsLowerBound}
use Rattle.response.proofs.bounds.lower_bound.Given as goal

abbrev pub invariant-loop-bound : goal.invariant-loop-bound
invariant-loop-bound l = record {
  onward : l.demanded ≤ l.bound;
  most : l.bound ≤ 2 ^ 40;
  lower : IsLowerBound l.own (slice_index l.higher) (slice_index l.slopes) l.fn.task.0 l.bound;
}

abbrev pub decreases-loop-bound : goal.decreases-loop-bound
decreases-loop-bound l = 2 ^ 40 + 1 - l.bound
