-- A task's graph with what its part of a certificate lists: full states as the blocks of the cache
-- sets, an order of the nodes, and which nodes are counted as hits.
use Rattle.std.specs.Prelude.{◌≡◌, ◌↔◌, ℕ, ◌+◌, ◌<◌, Bool, false, List, length, All, Option, Some}
use Rattle.std.specs.Prelude.{None, MatchOption, slice_get, slice_index, slice_index_or, IsTrue}
use Rattle.std.specs.Prelude.{IsFalse}
use Rattle.crpd_base.specs.Limits.{most_sets}
use Rattle.crpd_base.specs.Ranges.{IsPlatform}
use Rattle.crpd_base.specs.declared.data.Platform.{Platform}
use Rattle.crpd_base.specs.declared.data.NodeState.{NodeState}
use Rattle.crpd_base.specs.declared.data.TaskPart.{TaskPart}
use Rattle.icache.specs.Cache.{held}
use Rattle.icache.specs.Accesses.{Accesses, accesses}
use Rattle.flat_graph.specs.Graph.{Graph, Edge}
use Rattle.flat_graph.specs.CodeGraph.{CodeGraph, graph_of, places_of}
use Rattle.evict_sets.specs.Full.{Listed, FullState, IsHit}
use Rattle.evict_sets.specs.CacheClauses.{ListsLeaders, StateAfter}
use Rattle.evict_sets.specs.ListedPart.{state_entry_of, listed_of}

-- the accesses of a graph's nodes
abbrev pub node_accesses : Platform → CodeGraph → Accesses
node_accesses p g = accesses p (places_of g).address

-- the place of an entry among the listed states; None exactly if there is no entry
abbrev pub IsEntryPlace : List NodeState → Option NodeState → Option ℕ → Type 0
IsEntryPlace states entry place =
    MatchOption place (entry ≡ None) (λ k. (k < length states) × (slice_get states k ≡ entry))

-- each node has the place of its entry
pub record IsEntryIndex (states : List NodeState) (size : ℕ) (places : List (Option ℕ)) : Type 0
  where
    pub count : length places ≡ size
    pub each : (y : ℕ) → y < size
        → IsEntryPlace states (state_entry_of states y) (slice_index_or places y None)

-- the cache sets of the listed states are below 512
abbrev pub HasLowSets : TaskPart → Type 0
HasLowSets t = All (λ (s : NodeState). All (λ (x : ℕ × ℕ). x.0 < most_sets) s.sure) t.states

-- the platform and the part are in their ranges, the places are those of the part's entries, and
-- the leaders are listed
pub record IsListing (p : Platform) (g : CodeGraph) (t : TaskPart) (places : List (Option ℕ))
    : Type 0 where
  pub platform : IsPlatform p
  pub sets : HasLowSets t
  pub index : IsEntryIndex t.states (length g.nodes) places
  pub leaders : ListsLeaders (graph_of g) (listed_of t)

-- the blocks of the cache sets are the full state of node y
abbrev pub IsStateAt : Graph → Accesses → Listed → ℕ → List (Option ℕ) → Type 0
IsStateAt g a l y blocks = (s m : ℕ) → FullState g a l y s m ↔ (held blocks s ≡ Some m)

-- and the state after node u
abbrev pub IsStateAfter : Graph → Accesses → Listed → ℕ → List (Option ℕ) → Type 0
IsStateAfter g a l u blocks = (s m : ℕ) → StateAfter g a l u s m ↔ (held blocks s ≡ Some m)

-- all nodes in an order in which an unlisted node follows the node that it continues
pub record IsChainOrder (g : Graph) (l : Listed) (order : List ℕ) : Type 0 where
  pub count : length order ≡ g.size
  pub nodes : (k : ℕ) → k < g.size → slice_index order k < g.size
  pub every : (y : ℕ) → y < g.size → (k : ℕ) × (k < g.size) × (slice_index order k ≡ y)
  pub start : 0 < g.size → IsTrue (l.is_listed (slice_index order 0))
  pub before : (k : ℕ) → k + 1 < g.size → IsFalse (l.is_listed (slice_index order (k + 1)))
      → Edge g (slice_index order k) (slice_index order (k + 1))
  pub behind : (k v : ℕ) → k < g.size → Edge g (slice_index order k) v → IsFalse (l.is_listed v)
      → (k + 1 < g.size) × (slice_index order (k + 1) ≡ v)

-- whether the list counts the node as a hit
abbrev pub counted : List Bool → ℕ → Bool
counted hits y = slice_index_or hits y false

-- which nodes are counted as hits, as a test
abbrev pub CountsHits : Graph → Accesses → Listed → (ℕ → Bool) → Type 0
CountsHits g a l is_hit = (y : ℕ) → y < g.size → IsTrue (is_hit y) ↔ IsHit g a l y
