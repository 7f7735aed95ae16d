use Rattle.std.proofs.Common.{◌≤◌, ◌<◌, ◌^◌, length, slice_index, length-set, arith}
use Rattle.delay_count.specs.Gamma.{part_at}
use Rattle.delay_count.specs.Rates.{IsRate, CountsJobs}
use Rattle.delay_count.proofs.Written.{written_each}
use Rattle.response.proofs.bounds.slopes.Goals as goal

pub loop-k-preserved : goal.loop-k-preserved
loop-k-preserved c =
    let so_far = c.loop-k.invariant in
    let room : c.loop-k.k < length c.loop-k.slopes = omega arith in
    let slope = c.least_rate.result in
    record {
      size = simp length-set so_far.size;
      flat =
          written_each (λ k x. x ≤ 2 ^ 80) c.loop-k.slopes c.loop-k.k slope room so_far.flat
          c.least_rate.ensures.most;
      counts =
          written_each (λ k x. CountsJobs c.args.set.now (part_at c.args.parts.now) k x)
          c.loop-k.slopes c.loop-k.k slope room so_far.counts c.least_rate.ensures.counts;
      slopes =
          written_each (λ k x. IsRate c.args.set.now (part_at c.args.parts.now)
          (slice_index c.args.windows.now) c.args.method c.args.task.0 k x)
          c.loop-k.slopes c.loop-k.k slope room so_far.slopes c.least_rate.ensures.is;
    }

pub returns-clause-size : goal.returns-clause-size
returns-clause-size c = c.loop-k.invariant.size

pub returns-clause-flat : goal.returns-clause-flat
returns-clause-flat c = λ k lt. c.loop-k.invariant.flat k (omega arith)

pub returns-clause-slopes : goal.returns-clause-slopes
returns-clause-slopes c = λ k lt. c.loop-k.invariant.slopes k (omega arith)

pub returns-clause-counts : goal.returns-clause-counts
returns-clause-counts c = λ k lt. c.loop-k.invariant.counts k (omega arith)
