use Rattle.std.proofs.Common.{◌≡◌, ◌≤◌, ◌*◌, ◌^◌, slice_index}
use Rattle.crpd_base.specs.Sum.{sum_below}
use Rattle.delay_count.specs.Gamma.{part_at}
use Rattle.delay_count.specs.Demand.{gamma}
use Rattle.delay_count.proofs.window_demand.charged_delays.Given as goal

abbrev pub invariant-loop-higher : goal.invariant-loop-higher
invariant-loop-higher l = record {
  is : l.total ≡ sum_below (gamma l.set (part_at l.parts) (slice_index l.windows) l.w l.method l.i)
      l.higher;
  most : l.total ≤ l.higher * 2 ^ 112;
}
