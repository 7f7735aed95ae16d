use Rattle.std.proofs.Common.{arith, ◌≡◌, ◌≤◌, ◌+◌, ◌*◌, length, ap, ◌∙◌, sym, slice_index}
use Rattle.std.proofs.Math.Nat.{mul-le-mul_left}
use Rattle.std.proofs.lemmas.Grind.{common_steps}
use Rattle.crpd_base.specs.Sets.{has}
use Rattle.delay_count.specs.Gamma.{count_at, useful_at}
use Rattle.delay_count.proofs.Bits.{product, shared_most}
use Rattle.delay_count.proofs.Choices.{none_from, finished, full, joined, choice_same}
use Rattle.delay_count.proofs.choice.gamma_ecb.Goals as goal

pub loop-values-init : goal.loop-values-init
loop-values-init g c =
    let none = none_from (slice_index c.shared_sets-values.result) (count_at c.args.lower.now)
    (64 * g.row.W + 1) (length c.args.lower.now)
    (λ k h. omega (
      arith,
      c.shared_sets-values.ensures k h,
      shared_most (useful_at c.args.lower.now k) (has c.args.evicting_up.now) (64 * g.row.W),
    )) in
    record {
      some = omega arith;
      least = omega (arith, c.requires.sets);
      worth = sym none.1;
      left = omega (arith, none.0, c.from-room.ensures);
      bound = omega (arith, c.from-room.ensures);
    }

pub returns-then-value-eq0 : goal.returns-then-value-eq0
returns-then-value-eq0 g c =
    product _ _ _ _ c.from.ensures
    (finished (slice_index c.shared_sets-values.result) (count_at c.args.lower.now)
    c.loop-values.level c.next_value-value.result (length c.args.lower.now) c.args.jobs
    c.loop-values.charged c.loop-values.room
    c.next_value-value.ensures c.if-value-eq0.true c.loop-values.invariant.worth
    c.loop-values.invariant.left
    ∙ choice_same _ _ (count_at c.args.lower.now) (length c.args.lower.now) c.args.jobs
    c.shared_sets-values.ensures)

pub returns-then-count-room : goal.returns-then-count-room
returns-then-count-room g c =
    product _ _ _ _ c.from-then-count-room.ensures
    (ap (λ x. c.loop-values.charged + c.loop-values.room * x) c.from-then-count-room-2.ensures
    ∙ full (slice_index c.shared_sets-values.result) (count_at c.args.lower.now) c.loop-values.level
    c.next_value-value.result (length c.args.lower.now) c.args.jobs c.loop-values.charged
    c.loop-values.room
    c.next_value-value.ensures c.loop-values.invariant.worth c.loop-values.invariant.left
    (omega (arith, c.count_of_value-count.ensures))
    ∙ choice_same _ _ (count_at c.args.lower.now) (length c.args.lower.now) c.args.jobs
    c.shared_sets-values.ensures)

pub loop-values-preserved : goal.loop-values-preserved
loop-values-preserved g c =
    let both = joined (slice_index c.shared_sets-values.result) (count_at c.args.lower.now)
    c.loop-values.level c.next_value-value.result (length c.args.lower.now)
    c.next_value-value.ensures.below c.next_value-value.ensures.greatest in
    let times : c.count_of_value-count.result * c.from-in-loop-values.result ≡ _ =
    product _ _ _ _ c.count_of_value-count.ensures c.from-in-loop-values.ensures in
    let most : c.count_of_value-count.result * c.from-in-loop-values.result
    ≤ c.count_of_value-count.result * 65536 =
    mul-le-mul_left c.count_of_value-count.result
    (omega (
      arith,
      c.from-in-loop-values.ensures,
      c.next_value-value.ensures.below,
      c.loop-values.invariant.least,
    )) in
    record {
      some = omega arith;
      least = omega (arith, c.next_value-value.ensures.below, c.loop-values.invariant.least);
      worth = omega (arith, both.1, times, c.loop-values.invariant.worth);
      left = omega (arith, both.0, c.count_of_value-count.ensures, c.loop-values.invariant.left);
      bound = omega (arith, most, c.loop-values.invariant.bound);
    }

pub overflow_add-charged : goal.overflow_add-charged
overflow_add-charged g c = grind (arith, common_steps)

pub overflow_add-result : goal.overflow_add-result
overflow_add-result g c = grind (arith, common_steps)

pub overflow_mul-charged : goal.overflow_mul-charged
overflow_mul-charged g c = grind (arith, common_steps)

pub overflow_mul-result : goal.overflow_mul-result
overflow_mul-result g c = grind (arith, common_steps)

pub overflow_mul-result-then-count-room : goal.overflow_mul-result-then-count-room
overflow_mul-result-then-count-room g c = grind (arith, common_steps)

pub overflow_mul-result-then-count-room-2 : goal.overflow_mul-result-then-count-room-2
overflow_mul-result-then-count-room-2 g c = grind (arith, common_steps)
