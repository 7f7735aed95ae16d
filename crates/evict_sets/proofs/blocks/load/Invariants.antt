-- The pairs from the last so far are in their sets.
use Rattle.std.proofs.Common.{◌≡◌, ℕ, ◌-◌, length, drop}
use Rattle.icache.specs.Cache.{held}
use Rattle.evict_sets.specs.ListedPart.{block_of_set}
use Rattle.evict_sets.proofs.blocks.load.Given as goal

abbrev pub invariant-loop-done : goal.invariant-loop-done
invariant-loop-done l =
    (s : ℕ) → held l.blocks s ≡ block_of_set (drop (length l.sure - l.done) l.sure) s
