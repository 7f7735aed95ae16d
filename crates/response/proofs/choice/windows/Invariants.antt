use Rattle.std.proofs.Common.{◌≡◌, ℕ, ◌+◌, ◌<◌, ◌≤◌, length, get_or, slice_index}
use Rattle.crpd_base.specs.Tasks.{jitter_of, deadline_of}
use Rattle.delay_count.specs.Gamma.{part_at}
use Rattle.delay_count.specs.Demand.{demand}
use Rattle.response.specs.Windows.{AreChoices, chosen_window}
use Rattle.response.proofs.choice.windows.Given as goal

abbrev pub invariant-loop-i : goal.invariant-loop-i
invariant-loop-i l = record {
  size : length l.choices.items ≡ l.i;
  room : length l.found ≡ 32;
  same : (k : ℕ) → k < l.i → get_or l.found k 0 ≡ chosen_window l.choices.items k;
  in_deadline : (k : ℕ) → k < l.i → get_or l.found k 0 + jitter_of l.set k ≤ deadline_of l.set k;
  each : AreChoices l.set (demand l.set (part_at l.parts) (slice_index l.longest))
      l.choices.items l.i;
}
