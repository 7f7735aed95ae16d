use Rattle.std.proofs.Common.{arith, ◌*◌, ◌^◌, ◌≤◌, slice_index}
use Rattle.delay_count.specs.Gamma.{count_at}
use Rattle.delay_count.specs.Inner.Filling.{sum_at_value}
use Rattle.delay_count.proofs.Choices.{counted_most, counted_more, counted_other}
use Rattle.delay_count.proofs.Shares.{count_is}
use Rattle.delay_count.proofs.choice.count_of_value.Goals as goal
use Rattle.delay_count.proofs.choice.count_of_value.Goals.{then-values-k, else-values-k}

pub overflow_add-count : goal.overflow_add-count
overflow_add-count g c =
    let most : sum_at_value (slice_index c.args.values.now) (count_at c.args.lower.now) c.loop-k.k
    c.args.value ≤ c.loop-k.k * 2 ^ 81 =
    counted_most (slice_index c.args.values.now) (count_at c.args.lower.now) c.args.value
    (2 ^ 81) c.loop-k.k (λ k h. omega (arith, c.requires.counts k (omega arith))) in
    let is = count_is c.args.lower.now c.loop-k.k c.index-lower-k.result c.loop-k-test.true
    c.index-lower-k.is in
    omega (arith, most, is, c.requires.counts c.loop-k.k c.loop-k-test.true)

pub loop-k-preserved : goal.loop-k-preserved
loop-k-preserved g c =
    elim c.if-values-k.branch [
      | then-values-k w ↦
          counted_more (slice_index c.args.values.now) (count_at c.args.lower.now) c.loop-k.k
          c.args.value _ _ c.loop-k.invariant w.if-values-k.true
          (w.count-is)
          (count_is c.args.lower.now c.loop-k.k w.index-lower-k.result c.loop-k-test.true
          w.index-lower-k.is)
      | else-values-k w ↦
          counted_other (slice_index c.args.values.now) (count_at c.args.lower.now) c.loop-k.k
          c.args.value _ _ c.loop-k.invariant w.if-values-k.false w.count-is
    ]
