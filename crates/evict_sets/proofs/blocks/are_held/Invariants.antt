-- The pairs so far are seen, and the first of each set is held.
use Rattle.evict_sets.proofs.Pairs.{PairsTo}
use Rattle.evict_sets.proofs.blocks.are_held.Given as goal

abbrev pub invariant-loop-k : goal.invariant-loop-k
invariant-loop-k l = PairsTo l.blocks l.sure l.seen l.k
