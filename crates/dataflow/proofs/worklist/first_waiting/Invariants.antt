-- No node before the place waits.
use Rattle.std.proofs.Common.{◌≡◌, ℕ, ◌<◌, ◌≤◌, slice_index, false}
use Rattle.dataflow.specs.Inner.Search.{waits}
use Rattle.dataflow.proofs.worklist.first_waiting.Given as goal

abbrev pub invariant-loop-place : goal.invariant-loop-place
invariant-loop-place l =
    (i : ℕ) → l.from ≤ i → i < l.place → waits l.waiting (slice_index l.order i) ≡ false
