use Rattle.std.proofs.Common.{ℕ, ◌+◌, ◌-◌, ◌<◌, ◌≤◌, slice_index}
use Rattle.delay_count.specs.Gamma.{part_at}
use Rattle.delay_count.specs.Demand.{demand}
use Rattle.response.proofs.search.window.Given as goal

abbrev pub invariant-loop-w : goal.invariant-loop-w
invariant-loop-w l = record {
  some : 1 ≤ l.w;
  below : (v : ℕ) → 1 ≤ v → v < l.w
      → v < demand l.set (part_at l.parts) (slice_index l.longest) (slice_index l.windows)
      l.task.0 l.method v;
}

abbrev pub decreases-loop-w : goal.decreases-loop-w
decreases-loop-w l = l.limit + 1 - l.w
