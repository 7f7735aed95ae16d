-- The invariant while an order of the nodes is written.
use Rattle.std.specs.Prelude.{◌≡◌, ◌≢◌, ℕ, ◌+◌, ◌<◌, ◌≤◌, List, length, slice_index, IsTrue}
use Rattle.std.specs.Prelude.{IsFalse}
use Rattle.flat_graph.specs.Graph.{Graph, Edge}
use Rattle.evict_sets.specs.Full.{Listed}

-- the first `count` of the list are different nodes, in an order in which an unlisted node follows
-- the node that it continues
pub record IsOrderPrefix (g : Graph) (l : Listed) (order : List ℕ) (count : ℕ) : Type 0 where
  pub room : count ≤ length order
  pub nodes : (k : ℕ) → k < count → slice_index order k < g.size
  pub apart : (j k : ℕ) → j < k → k < count → slice_index order j ≢ slice_index order k
  pub start : 0 < count → IsTrue (l.is_listed (slice_index order 0))
  pub before : (k : ℕ) → k + 1 < count → IsFalse (l.is_listed (slice_index order (k + 1)))
      → Edge g (slice_index order k) (slice_index order (k + 1))
  pub behind : (k v : ℕ) → k + 1 < count → Edge g (slice_index order k) v → IsFalse (l.is_listed v)
      → slice_index order (k + 1) ≡ v

-- no unlisted node continues the last of them
abbrev pub IsChainComplete : Graph → Listed → List ℕ → ℕ → Type 0
IsChainComplete g l order count =
    (k v : ℕ) → k + 1 ≡ count → Edge g (slice_index order k) v → IsTrue (l.is_listed v)

-- of the listed nodes exactly those below a number are among them
pub record HasListedBelow (g : Graph) (l : Listed) (order : List ℕ) (count below : ℕ) : Type 0 where
  pub only : (k : ℕ) → k < count → IsTrue (l.is_listed (slice_index order k))
      → slice_index order k < below
  pub all : (y : ℕ) → y < below → y < g.size → IsTrue (l.is_listed y)
      → (k : ℕ) × (k < count) × (slice_index order k ≡ y)
