-- Paths of forward edges, and the search for them.
use Rattle.std.specs.Prelude.{◌≡◌, ◌⊎◌, ℕ, suc, ◌+◌, ◌<◌, Bool, true, false, List, [], ◌∷◌, length}
use Rattle.std.specs.Prelude.{slice_index_or, IsTrue}
use Rattle.flat_graph.specs.Graph.{Graph}
use Rattle.loop_regions.specs.Nest.{Nest}
use Rattle.loop_regions.specs.Stated.{IsForward, IsForwardPath, IsOnCycle}
use Rattle.loop_regions.specs.CodeNest.{has}

-- some path of forward edges leads from y to v
abbrev pub Reaches : Graph → Nest → ℕ → ℕ → Type 0
Reaches g n y v = (between : List ℕ) × IsForwardPath g n y between v

-- no cycle goes through the nodes below k
abbrev pub NoneBelow : Graph → Nest → ℕ → Type 0
NoneBelow g n k = (z : ℕ) → z < k → IsOnCycle g n z → ⊥

-- whether a node was seen
abbrev pub was_seen : List Bool → ℕ → Bool
was_seen seen v = slice_index_or seen v false

-- the seen nodes are reached from y, and the waiting ones are y or reached; each forward edge from
-- y or from a seen node leads to a seen node, or its source waits
pub record IsSearch (g : Graph) (n : Nest) (y : ℕ) (seen : List Bool) (waiting : List ℕ)
    : Type 0 where
  pub nodes : length seen ≡ g.size
  pub sound : (v : ℕ) → IsTrue (was_seen seen v) → Reaches g n y v
  pub own : (u : ℕ) → IsTrue (has waiting u) → (u < g.size) × ((u ≡ y) ⊎ Reaches g n y u)
  pub followed : (u v : ℕ) → (u ≡ y) ⊎ IsTrue (was_seen seen u) → IsForward g n u v
      → IsTrue (was_seen seen v) ⊎ IsTrue (has waiting u)

-- the edge from u to v, if it is a forward one, leads to a seen node
abbrev pub IsFollowed : Graph → Nest → List Bool → ℕ → ℕ → Type 0
IsFollowed g n seen u v = IsForward g n u v → IsTrue (was_seen seen v)

-- the number of nodes that are not seen
unfoldable pub unseen : List Bool → ℕ
unseen [] = 0
unseen (true ∷ seen) = unseen seen
unseen (false ∷ seen) = suc (unseen seen)

-- the work left: the nodes not seen, and the waiting ones
abbrev pub to_search : List Bool → List ℕ → ℕ
to_search seen waiting = unseen seen + length waiting
