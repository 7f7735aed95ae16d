use Rattle.std.proofs.Common.{arith, ◌≡◌, ap, length-set, slice_index}
use Rattle.std.proofs.lemmas.List.{get_or_read}
use Rattle.crpd_base.specs.declared.data.Part.{Part}
use Rattle.crpd_base.specs.Sets.{has}
use Rattle.delay_count.specs.Gamma.{part_at}
use Rattle.delay_count.specs.Inner.Rates.{affected_rate}
use Rattle.delay_count.proofs.Shares.{put_counts, put_useful}
use Rattle.delay_count.proofs.rates.rate_shares.Goals as goal

pub loop-k-preserved : goal.loop-k-preserved
loop-k-preserved c =
    let part : c.index-parts-k.result ≡ part_at c.args.parts.now c.loop-k.k =
    get_or_read c.args.parts.now c.loop-k.k c.index-parts-k.result
    (omega arith) c.index-parts-k.is _ in
    record {
      room = simp length-set c.loop-k.invariant.room;
      counts =
          put_counts c.loop-k.shares c.loop-k.k _
          (affected_rate c.args.set.now (slice_index c.args.windows.now) c.args.i c.args.j)
          (omega (arith, c.loop-k.invariant.room, c.requires.times.tasks)) c.loop-k.invariant.counts
          c.preemption_rate.ensures;
      useful =
          put_useful c.loop-k.shares c.loop-k.k _ (λ k. has (part_at c.args.parts.now k).useful)
          (omega (arith, c.loop-k.invariant.room, c.requires.times.tasks)) c.loop-k.invariant.useful
          (λ s. ap (λ (p : Part). has p.useful s) part);
    }
