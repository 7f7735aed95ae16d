-- How leaders are found from the edges, node by node.
use Rattle.std.specs.Prelude.{◌≡◌, ◌≢◌, ℕ, ◌<◌, List, [], ◌∷◌, length, Contains, All, Some, Bool}
use Rattle.std.specs.Prelude.{true, false, IsTrue, ◌↔◌, slice_get, if◌then◌else◌, ◌==◌, ◌||◌}
use Rattle.flat_graph.specs.Graph.{Graph, IsLeader}
use Rattle.flat_graph.specs.Inner.StoredGraph.{next_nodes}
use Rattle.flat_graph.specs.declared.graph.NextNodes.{NextNodes}
use Rattle.flat_graph.specs.declared.graph.NextNodes.TheVariants.{Ends, To, Either}
use Rattle.flat_graph.specs.declared.leaders.Mark.{Mark}
use Rattle.flat_graph.specs.declared.leaders.Mark.TheVariants.{Unmet, Continues, Leads}
use Rattle.flat_graph.specs.declared.graph.NodeBody.{NodeBody}

-- the graph has the edges of the bodies
pub record IsGraphOfBodies (g : Graph) (bodies : List NodeBody) (first : ℕ) : Type 0 where
  pub size : g.size ≡ length bodies
  pub start : g.first ≡ first
  pub next : (u : ℕ) (l : NodeBody) → slice_get bodies u ≡ Some l → g.next u ≡ next_nodes l.next

-- two ends are different nodes
abbrev pub HasDifferentEnds : NextNodes → Type 0
HasDifferentEnds Ends = Unit {0}
HasDifferentEnds (To v) = Unit {0}
HasDifferentEnds (Either v w) = v ≢ w

-- the ends of a node's edges are nodes, and differ
pub record AreEnds (size : ℕ) (next : NextNodes) : Type 0 where
  pub below : All (λ v. v < size) (next_nodes next)
  pub apart : HasDifferentEnds next

-- the mark after one more edge from a node with one successor
abbrev pub mark_after_edge : Mark → Mark
mark_after_edge Unmet = Continues
mark_after_edge _ = Leads

-- a node's mark after the edges from one node
abbrev pub mark_after_edges : NextNodes → ℕ → Mark → Mark
mark_after_edges Ends v m = m
mark_after_edges (To a) v m = if v == a then mark_after_edge m else m
mark_after_edges (Either a b) v m = if (v == a) || (v == b) then Leads else m

-- what a mark means after the edges from the first nodes
abbrev pub IsMarked : Graph → ℕ → ℕ → Mark → Type 0
IsMarked g count v Unmet = (v ≢ g.first) × ((u : ℕ) → u < count → Contains (g.next u) v → ⊥)
IsMarked g count v Continues =
    (v ≢ g.first) × (u : ℕ) × (u < count) × (g.next u ≡ v ∷ [])
    × ((w : ℕ) → w < count → Contains (g.next w) v → w ≡ u)
IsMarked g count v Leads = IsLeader g v

-- each node has the mark that the edges of the first nodes give it
abbrev pub AreMarked : List NodeBody → ℕ → ℕ → List Mark → Type 0
AreMarked bodies first count marks =
    (g : Graph) → IsGraphOfBodies g bodies first → (v : ℕ) (m : Mark) → slice_get marks v ≡ Some m
    → IsMarked g count v m

-- a node with this mark is a leader, after all edges
abbrev pub is_leading : Mark → Bool
is_leading Continues = false
is_leading _ = true

-- exactly the leaders are flagged
abbrev pub HasLeaders : List NodeBody → ℕ → List Bool → Type 0
HasLeaders bodies first leaders =
    (g : Graph) → IsGraphOfBodies g bodies first → (v : ℕ) (b : Bool) → slice_get leaders v ≡ Some b
    → IsTrue b ↔ IsLeader g v
