-- How a nest is stored.
use Rattle.std.specs.Prelude.{◌≡◌, ℕ, ◌<◌, ◌≤◌, List, Option, None, length, slice_index_or}
use Rattle.crpd_base.specs.Limits.{most_nodes}
use Rattle.loop_regions.specs.CodeNest.{CodeNest, nest_of}
use Rattle.loop_regions.specs.Levels.{IsLevel, IsParent}

-- the regions, with the parent of each region and the innermost region of each node
pub record IsStoredNest (n : CodeNest) (parents innermost : List (Option ℕ)) : Type 0 where
  pub few : length n.heads ≤ most_nodes
  pub all_parents : length parents ≡ length n.heads
  pub all_levels : length innermost ≡ length n.holders
  pub is_parent : (r : ℕ) → r < length n.heads
      → IsParent (nest_of n) r (slice_index_or parents r None)
  pub is_level : (y : ℕ) → y < length n.holders
      → IsLevel (nest_of n) y (slice_index_or innermost y None)
