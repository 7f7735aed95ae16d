-- The numbers below s are removed.
use Rattle.persistent_blocks.proofs.Removed.{AreRemovedBelow}
use Rattle.persistent_blocks.proofs.payments_table.remove_each.Given as goal

abbrev pub invariant-loop-s : goal.invariant-loop-s
invariant-loop-s l = AreRemovedBelow l.others l.initial.sets l.sets l.s
