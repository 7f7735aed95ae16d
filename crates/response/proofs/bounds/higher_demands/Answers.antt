use Rattle.std.proofs.Common.{◌≡◌, ◌≤◌, ◌<◌, ◌^◌, length, slice_index, length-set, arith}
use Rattle.delay_count.specs.Gamma.{part_at}
use Rattle.delay_count.specs.Demand.{higher_demand}
use Rattle.delay_count.proofs.Written.{written_each}
use Rattle.response.proofs.bounds.higher_demands.Goals as goal

pub loop-k-preserved : goal.loop-k-preserved
loop-k-preserved c =
    let so_far = c.loop-k.invariant in
    let room : c.loop-k.k < length c.loop-k.higher = omega arith in
    let demand = c.higher_demand.result in
    record {
      size = simp length-set so_far.size;
      is =
          written_each (λ k x. x
          ≡ higher_demand c.args.set.now (part_at c.args.parts.now) (slice_index c.args.windows.now)
          c.args.w c.args.method c.args.task.0 k)
          c.loop-k.higher c.loop-k.k demand room so_far.is c.higher_demand.ensures.is;
      most =
          written_each (λ k x. x ≤ 2 ^ 113) c.loop-k.higher c.loop-k.k demand room so_far.most
          c.higher_demand.ensures.most;
    }
