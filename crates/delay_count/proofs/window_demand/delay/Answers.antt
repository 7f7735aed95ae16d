use Rattle.std.proofs.Common.{arith, ◌∙◌, slice_index}
use Rattle.delay_count.specs.Gamma.{count_at, part_at}
use Rattle.delay_count.proofs.Times.{affected_few}
use Rattle.delay_count.proofs.Delays.{gamma_from}
use Rattle.delay_count.proofs.window_demand.delay.Goals as goal

pub delay_by-requires-clause-counts : goal.delay_by-requires-clause-counts
delay_by-requires-clause-counts c = λ k h.
    omega (
      arith,
      c.affected_shares-shares.ensures.counts k h,
      affected_few c.args.set.now c.args.windows.now c.args.w c.args.i c.args.j k c.requires.times
          c.requires.windows c.requires.i c.requires.j h c.requires.w,
    )

pub returns-clause-is : goal.returns-clause-is
returns-clause-is c =
    c.delay_by.ensures.is
    ∙ gamma_from c.args.set.now (part_at c.args.parts.now) (slice_index c.args.windows.now)
    (count_at c.affected_shares-shares.result) c.args.w c.args.i c.args.j c.jobs.result
    c.args.method c.jobs.ensures c.affected_shares-shares.ensures.counts
