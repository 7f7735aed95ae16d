use Rattle.std.proofs.Common.{arith, ap, add-one, refl, ℕ, max, ◌≡◌, ◌*◌, ◌^◌, slice_index}
use Rattle.crpd_base.proofs.Sums.{sum_part}
use Rattle.crpd_base.specs.Sum.{sum_below}
use Rattle.response.proofs.Jumps.{sloped, taken, divided, too_steep}
use Rattle.response.proofs.Jumps.{split_sloped, split_taken, settled}
use Rattle.response.proofs.bounds.next_bound.Goals as goal
use Rattle.response.proofs.bounds.next_bound.Goals.{then-higher-k, else-higher-k}

pub overflow_mul-higher : goal.overflow_mul-higher
overflow_mul-higher c =
    omega (
      arith,
      c.requires.taken,
      sum_part (slice_index c.args.higher.now) c.args.task.0 c.loop-k.k (omega arith),
    )

pub overflow_add-fixed : goal.overflow_add-fixed
overflow_add-fixed c =
    omega (
      arith,
      c.requires.taken,
      c.loop-k.invariant.few,
      sum_part (slice_index c.args.higher.now) c.args.task.0 c.loop-k.k (omega arith),
    )

pub loop-k-preserved : goal.loop-k-preserved
loop-k-preserved c =
    elim c.if-higher-k.branch [
      | then-higher-k w ↦ rw (w.fixed-is, w.slope-is) (record {
        few = rw (add-one c.loop-k.k) (omega (arith, c.loop-k.invariant.few));
        splits =
            split_sloped c.args.own c.loop-k.fixed c.loop-k.slope
            (slice_index c.args.higher.now c.loop-k.k) (slice_index c.args.slopes.now c.loop-k.k)
            c.loop-k.k c.args.bound
            (λ k. max (slice_index c.args.higher.now k * 2 ^ 80)
            (slice_index c.args.slopes.now k * c.args.bound)) c.loop-k.invariant.splits refl
            (omega arith);
        own = c.loop-k.invariant.own;
        flat = omega (arith, c.loop-k.invariant.flat, c.requires.flat c.loop-k.k (omega arith));
        lower = λ v takes more steep.
            sloped c.args.own c.loop-k.fixed c.loop-k.slope
            (slice_index c.args.slopes.now c.loop-k.k) c.loop-k.k v takes
            (c.loop-k.invariant.lower v takes more steep) (steep c.loop-k.k (omega arith));
      })
      | else-higher-k w ↦ rw (w.fixed-is, w.slope-is) (record {
        few = rw (add-one c.loop-k.k) (omega (arith, c.loop-k.invariant.few));
        splits =
            split_taken c.args.own c.loop-k.fixed c.loop-k.slope
            (slice_index c.args.higher.now c.loop-k.k) (slice_index c.args.slopes.now c.loop-k.k)
            c.loop-k.k c.args.bound
            (λ k. max (slice_index c.args.higher.now k * 2 ^ 80)
            (slice_index c.args.slopes.now k * c.args.bound)) c.loop-k.invariant.splits refl
            (omega arith);
        own = omega (arith, c.loop-k.invariant.own);
        flat = omega (arith, c.loop-k.invariant.flat);
        lower = λ v takes more steep.
            taken c.args.own c.loop-k.fixed c.loop-k.slope
            (slice_index c.args.higher.now c.loop-k.k) c.loop-k.k v takes
            (c.loop-k.invariant.lower v takes more steep) (more c.loop-k.k (omega arith));
      })
    ]

pub returns-then-slope-lt-SCALE-clause-lower : goal.returns-then-slope-lt-SCALE-clause-lower
returns-then-slope-lt-SCALE-clause-lower c = λ v takes more steep fits.
    let all : sum_below takes c.loop-k.k ≡ sum_below takes c.args.task.0 =
    ap (sum_below takes) (omega (arith, c.loop-k.auto.k-end)) in
    let low = divided c.loop-k.fixed c.loop-k.slope v (omega arith)
    (omega (arith, c.loop-k.invariant.lower v takes more steep, fits, all)) in
    omega (arith, low, c.requires.known v takes more steep fits, c.max.ensures)

pub returns-then-fixed-gt0-clause-lower : goal.returns-then-fixed-gt0-clause-lower
returns-then-fixed-gt0-clause-lower c = λ v takes more steep fits.
    let all : sum_below takes c.loop-k.k ≡ sum_below takes c.args.task.0 =
    ap (sum_below takes) (omega (arith, c.loop-k.auto.k-end)) in
    absurd (too_steep c.loop-k.fixed c.loop-k.slope v (omega arith) (omega arith)
    (omega (arith, c.loop-k.invariant.lower v takes more steep, fits, all)))

pub returns-else-fixed-gt0-clause-lower : goal.returns-else-fixed-gt0-clause-lower
returns-else-fixed-gt0-clause-lower c = c.requires.known

pub returns-then-slope-lt-SCALE-clause-settled : goal.returns-then-slope-lt-SCALE-clause-settled
returns-then-slope-lt-SCALE-clause-settled c = λ some low.
    let more : ℕ → ℕ = λ k. max (slice_index c.args.higher.now k * 2 ^ 80)
    (slice_index c.args.slopes.now k * c.args.bound) in
    let all : sum_below more c.loop-k.k ≡ sum_below more c.args.task.0 =
    ap (sum_below more) (omega (arith, c.loop-k.auto.k-end)) in
    omega (
      arith,
      c.loop-k.invariant.splits,
      all,
      settled c.loop-k.fixed c.loop-k.slope c.args.bound (omega arith)
          (omega (arith, low, c.max.ensures)),
    )

pub returns-then-fixed-gt0-clause-settled : goal.returns-then-fixed-gt0-clause-settled
returns-then-fixed-gt0-clause-settled c = λ some low.
    absurd (omega (arith, low, c.requires.bound))

pub returns-else-fixed-gt0-clause-settled : goal.returns-else-fixed-gt0-clause-settled
returns-else-fixed-gt0-clause-settled c = λ some low.
    absurd (omega (arith, some, c.loop-k.invariant.own))
