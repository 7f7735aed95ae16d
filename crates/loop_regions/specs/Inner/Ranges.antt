-- The ranges of a loop, sorted by their first addresses.
use Rattle.std.specs.Prelude.{◌≡◌, ℕ, ◌+◌, ◌<◌, ◌≤◌, List, length, slice_index, slice_index_or}
use Rattle.std.specs.List.Sorted.{IsNonDecreasingBy, IsPermutation}

-- the end of the range at a place
abbrev pub range_end : List (ℕ × ℕ) → ℕ → ℕ
range_end ranges k = (slice_index_or ranges k (0, 0)).1

-- the largest end of the first `count` ranges, 0 if there is none
pub record IsReach (ranges : List (ℕ × ℕ)) (count : ℕ) (reach : ℕ) : Type 0 where
  pub most : (k : ℕ) → k < count → range_end ranges k ≤ reach
  pub met : (a : ℕ) → a < reach → (k : ℕ) × (k < count) × (a < range_end ranges k)

-- the reach at each of the first places: the largest end up to the range there
pub record AreReaches (ranges : List (ℕ × ℕ)) (reaches : List ℕ) (count : ℕ) : Type 0 where
  pub count_is : length reaches ≡ count
  pub each : (k : ℕ) → k < count → IsReach ranges (k + 1) (slice_index reaches k)

-- the same ranges, sorted by their first addresses, with their reaches
pub record AreRanges (stated ranges : List (ℕ × ℕ)) (reaches : List ℕ) : Type 0 where
  pub same : IsPermutation stated ranges
  pub ascending : IsNonDecreasingBy (λ r. r.0) ranges
  pub reach : AreReaches ranges reaches (length ranges)
