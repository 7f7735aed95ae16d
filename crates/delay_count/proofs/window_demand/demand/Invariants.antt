use Rattle.std.proofs.Common.{◌≡◌, ◌≤◌, ◌+◌, ◌*◌, ◌^◌, slice_index}
use Rattle.crpd_base.specs.Sum.{sum_below}
use Rattle.delay_count.specs.Gamma.{part_at}
use Rattle.delay_count.specs.Demand.{own_demand, higher_demand}
use Rattle.delay_count.proofs.window_demand.demand.Given as goal

abbrev pub invariant-loop-j : goal.invariant-loop-j
invariant-loop-j l = record {
  is : l.total ≡ own_demand l.set (part_at l.parts) (slice_index l.longest) l.i
      + sum_below (higher_demand l.set (part_at l.parts) (slice_index l.windows) l.w l.method l.i)
      l.j;
  most : l.total ≤ 2 ^ 66 + l.j * 2 ^ 113;
}
