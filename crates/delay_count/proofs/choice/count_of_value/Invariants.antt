use Rattle.std.proofs.Common.{◌≡◌, slice_index}
use Rattle.delay_count.specs.Gamma.{count_at}
use Rattle.delay_count.specs.Inner.Filling.{sum_at_value}
use Rattle.delay_count.proofs.choice.count_of_value.Given as goal

abbrev pub invariant-loop-k : goal.invariant-loop-k
invariant-loop-k g l = l.count ≡ sum_at_value (slice_index l.values) (count_at l.lower) l.k l.value
