-- The prices of the first entries.
use Rattle.std.proofs.Common.{◌≡◌, ℕ, ◌*◌, ◌<◌, length, slice_index}
use Rattle.must_cache.specs.Marks.{sets_at}
use Rattle.persistent_blocks.specs.Inner.Paid.{sets_in}
use Rattle.persistent_blocks.proofs.payments_table.prices.Given as goal

abbrev pub invariant-loop-sets : goal.invariant-loop-sets
invariant-loop-sets l = record {
  count : length l.prices.items ≡ l.sets-index;
  each : (k : ℕ) → k < l.sets-index
      → slice_index l.prices.items k ≡ l.miss * sets_in (sets_at l.table.sets.items k);
}
