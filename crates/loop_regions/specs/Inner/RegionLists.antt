-- Lists of heads and holders that belong together.
use Rattle.std.specs.Prelude.{ℕ, ◌<◌, ◌≤◌, List, length, slice_index, IsTrue}
use Rattle.crpd_base.specs.Limits.{most_nodes}
use Rattle.loop_regions.specs.CodeNest.{has, row}

-- heads are nodes, each in its own region, and the holders of nodes are regions
pub record AreRegionLists (heads : List ℕ) (holders : List (List ℕ)) : Type 0 where
  pub few : length heads ≤ most_nodes
  pub few_nodes : length holders ≤ most_nodes
  pub head_nodes : (r : ℕ) → r < length heads → slice_index heads r < length holders
  pub holds_head : (r : ℕ) → r < length heads → IsTrue (has (row holders (slice_index heads r)) r)
  pub within : (y r : ℕ) → IsTrue (has (row holders y) r) → r < length heads
