-- The invariant while clauses 3 to 5 are checked at a task's nodes.
use Rattle.std.specs.Prelude.{◌↔◌, ℕ, ◌<◌, min, List, Option, Some, None, IsTrue}
use Rattle.crpd_base.specs.Sets.{has}
use Rattle.icache.specs.Accesses.{Accesses}
use Rattle.flat_graph.specs.Graph.{Graph, Edge}
use Rattle.evict_sets.specs.Full.{Listed, FullState, FullUseful}
use Rattle.evict_sets.specs.CacheClauses.{StateAfter}
pub use Rattle.evict_sets.specs.Listing.{counted}

-- the words are the full useful set of node y
abbrev pub IsUsefulAt : Graph → Accesses → Listed → ℕ → List ℕ → Type 0
IsUsefulAt g a l y words = (s : ℕ) → FullUseful g a l y s ↔ IsTrue (has words s)

-- the words are the sets that are useful at one of its successors
abbrev pub IsUsefulBehind : Graph → Accesses → Listed → ℕ → List ℕ → Type 0
IsUsefulBehind g a l y words =
    (s : ℕ) → ((v : ℕ) × Edge g y v × FullUseful g a l v s) ↔ IsTrue (has words s)

-- the state of node v has nothing that the state after node u lacks
abbrev pub EdgeStateMeets : Graph → Accesses → Listed → ℕ → ℕ → Type 0
EdgeStateMeets g a l u v = (s m : ℕ) → FullState g a l v s m → StateAfter g a l u s m

-- the smallest node at which a fact fails
pub record IsFirst (P : ℕ → Type 0) (size least : ℕ) : Type 0 where
  pub within : least < size
  pub fails : P least → ⊥
  pub holds : (u : ℕ) → u < least → P u

-- that node; None if the fact holds at each node
abbrev pub IsLeastFailing : (ℕ → Type 0) → ℕ → Option ℕ → Type 0
IsLeastFailing P size None = (u : ℕ) → u < size → P u
IsLeastFailing P size (Some least) = IsFirst P size least

-- a node, or a smaller one that is known
abbrev pub lesser : Option ℕ → ℕ → ℕ
lesser None node = node
lesser (Some least) node = min least node
