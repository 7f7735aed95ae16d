-- The entries from the last so far are at their places.
use Rattle.std.proofs.Common.{◌-◌, length}
use Rattle.evict_sets.proofs.Entries.{ArePlaced}
use Rattle.evict_sets.proofs.places.index.Given as goal

abbrev pub invariant-loop-done : goal.invariant-loop-done
invariant-loop-done l = ArePlaced l.states l.places (length l.states - l.done)
