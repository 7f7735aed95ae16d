-- The refined windows of the tasks so far.
use Rattle.std.proofs.Common.{◌≡◌, ℕ, ◌+◌, ◌<◌, ◌≤◌, length, get_or, slice_index}
use Rattle.crpd_base.specs.Tasks.{jitter_of, deadline_of}
use Rattle.delay_point.specs.Refined.{AreFirstRefined, window_at}
use Rattle.delay_point.specs.Inner.Lists.{list_by}
use Rattle.delay_point.specs.Inner.Windows.{counted_needs, counted_bounds}
use Rattle.delay_point.proofs.windows.refined_windows.Given as goal

abbrev pub invariant-loop-i : goal.invariant-loop-i
invariant-loop-i l = record {
  room : length l.found ≡ 32;
  same : (k : ℕ) → k < l.i → get_or l.found k 0 ≡ window_at l.tasks.items k;
  in_deadline : (k : ℕ) → k < l.i → get_or l.found k 0 + jitter_of l.set k ≤ deadline_of l.set k;
  refined : AreFirstRefined l.set
      (counted_needs l.set (list_by l.parts) (slice_index l.longest))
      (counted_bounds (list_by l.parts)) l.i l.tasks.items;
}
