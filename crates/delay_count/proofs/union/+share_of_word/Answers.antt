use Rattle.std.proofs.Common.{arith, ◌≡◌, suc, ap, ◌∙◌, ◌*◌, ◌-◌, slice_index}
use Rattle.delay_count.proofs.Bits.{share_none, share_full, share_last, share_split, share_within}
use Rattle.delay_count.proofs.Bits.{product}
use Rattle.delay_count.proofs.union.+share_of_word.Goals as goal

pub returns-then-word-eq0 : goal.returns-then-word-eq0
returns-then-word-eq0 t c =
    share_none c.args.jobs (slice_index c.args.useful.now) (slice_index c.args.counts.now)
    c.args.word c.args.tasks c.args.counted c.if-word-eq0.true

pub returns-then-counted-from : goal.returns-then-counted-from
returns-then-counted-from t c =
    product _ _ _ _ c.from-then-counted-from.ensures c.from-then-counted-from-2.ensures
    ∙ share_full c.args.jobs (slice_index c.args.useful.now) (slice_index c.args.counts.now)
    c.args.word c.args.tasks c.args.counted c.ranges.word.fits (omega arith)

pub returns-then-tasks-eq0 : goal.returns-then-tasks-eq0
returns-then-tasks-eq0 t c =
    ap (λ x. c.args.counted * x) c.from-then-tasks-eq0.ensures
    ∙ share_last c.args.jobs (slice_index c.args.useful.now) (slice_index c.args.counts.now)
    c.args.word c.args.tasks c.args.counted c.ranges.word.fits (omega arith) c.if-tasks-eq0.true

pub share_of_word-requires : goal.share_of_word-requires
share_of_word-requires t c = (
  omega (arith, c.decreases),
  (
    omega arith,
    (
      omega arith,
      (
        λ k h. c.requires.counts k (omega arith),
        omega (
          arith,
          c.requires.counts (c.args.tasks - 1) (omega arith),
          c.ranges.jobs.fits,
          c.from.ensures,
        ),
      ),
    ),
  ),
)

pub share_of_word-requires-2 : goal.share_of_word-requires-2
share_of_word-requires-2 t c = (
  omega (arith, c.decreases),
  (omega arith, (omega arith, (λ k h. c.requires.counts k (omega arith), omega arith))),
)

pub overflow_add-result : goal.overflow_add-result
overflow_add-result t c =
    omega (
      arith,
      c.ranges.jobs.fits,
      share_within c.args.jobs (slice_index c.args.useful.now) (slice_index c.args.counts.now) _ _ _
          _ c.share_of_word.ensures,
      share_within c.args.jobs (slice_index c.args.useful.now) (slice_index c.args.counts.now) _ _ _
          _ c.share_of_word-2.ensures,
    )

pub returns : goal.returns
returns t c =
    let e : c.args.tasks ≡ suc (c.args.tasks - 1) = omega arith in
    let split =
    share_split c.args.jobs (slice_index c.args.useful.now) (slice_index c.args.counts.now)
    c.args.word c.args.tasks (c.args.tasks - 1) c.args.counted
    (omega (arith, c.type_inv.useful (c.args.tasks - 1))) e in
    omega (arith, split)
