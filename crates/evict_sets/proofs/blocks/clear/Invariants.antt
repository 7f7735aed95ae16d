-- The sets below k have no block.
use Rattle.std.proofs.Common.{◌≡◌, ℕ, ◌<◌, None}
use Rattle.icache.specs.Cache.{held}
use Rattle.evict_sets.proofs.blocks.clear.Given as goal

abbrev pub invariant-loop-k : goal.invariant-loop-k
invariant-loop-k l = (s : ℕ) → s < l.k → held l.blocks s ≡ None
