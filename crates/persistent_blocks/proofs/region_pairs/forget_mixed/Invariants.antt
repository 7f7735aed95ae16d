-- The first states are without the sets with two blocks, the others as they were.
use Rattle.std.proofs.Common.{◌≡◌, ℕ, ◌<◌, ◌≤◌, if◌then◌else◌, None}
use Rattle.crpd_base.specs.Sets.{has}
use Rattle.icache.specs.Cache.{held}
use Rattle.must_cache.specs.Marks.{sets_at}
use Rattle.must_cache.specs.States.{state_at}
use Rattle.persistent_blocks.proofs.region_pairs.forget_mixed.Given as goal

abbrev pub invariant-loop-r : goal.invariant-loop-r
invariant-loop-r l = record {
  done : (k s : ℕ) → k < l.r → held (state_at l.first k) s
      ≡ (if has (sets_at l.mixed k) s then None else held (state_at l.initial.first k) s);
  others : (k : ℕ) → l.r ≤ k → state_at l.first k ≡ state_at l.initial.first k;
}
