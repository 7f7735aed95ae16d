use Rattle.std.proofs.Common.{arith, ap, ◌∙◌, ◌≤◌, ◌^◌, ◌*◌, length, slice_index}
use Rattle.std.proofs.lemmas.Nat.{mul-le}
use Rattle.delay_count.specs.Inner.Words.{word_share}
use Rattle.delay_count.proofs.Bits.{union_start, union_more, union_fits, word_of_sets, share_within}
use Rattle.delay_count.proofs.union.gamma_ucb.Goals as goal

pub loop-place-init : goal.loop-place-init
loop-place-init g c =
    union_start c.args.jobs (length c.args.lower.now) c.args.evicting.now c.args.lower.now

pub overflow_add-charged : goal.overflow_add-charged
overflow_add-charged g c =
    omega (
      arith,
      c.ranges.jobs.fits,
      union_fits c.args.jobs (length c.args.lower.now) (64 * c.loop-place.place)
          c.loop-place.charged c.args.evicting.now c.args.lower.now
          (omega (arith, c.ranges.jobs.fits)) (omega arith) c.loop-place.invariant,
      share_within _ _ _ _ _ _ _ c.share_of_word-charged.ensures,
    )

pub loop-place-preserved : goal.loop-place-preserved
loop-place-preserved g c =
    union_more c.args.jobs c.loop-place.place (length c.args.lower.now) c.args.evicting.now
    c.args.lower.now _ _ c.loop-place.invariant
    (c.share_of_word-charged.ensures
    ∙ ap (λ x. word_share c.args.jobs x (slice_index c.words_at-useful.result)
    (slice_index c.counts_of-counts.result) (length c.args.lower.now) 0) c.word.ensures
    ∙ word_of_sets c.args.jobs c.loop-place.place (length c.args.lower.now) c.args.evicting.now
    c.args.lower.now (slice_index c.words_at-useful.result) (slice_index c.counts_of-counts.result)
    c.words_at-useful.ensures c.counts_of-counts.ensures)

pub overflow_mul-result : goal.overflow_mul-result
overflow_mul-result g c =
    let most : c.loop-place.charged ≤ 2 ^ 80 =
    union_fits c.args.jobs (length c.args.lower.now) (64 * c.loop-place.place) c.loop-place.charged
    c.args.evicting.now c.args.lower.now (omega (arith, c.ranges.jobs.fits))
    (omega (arith, c.loop-place.auto)) c.loop-place.invariant in
    omega (
      arith,
      mul-le c.from.result c.loop-place.charged (2 ^ 32) (2 ^ 80)
          (omega (arith, c.from.ensures, c.ranges.miss.fits)) most,
    )
