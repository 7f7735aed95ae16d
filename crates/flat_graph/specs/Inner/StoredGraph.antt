-- How a graph is stored.
use Rattle.std.specs.Prelude.{◌≡◌, ℕ, ◌<◌, ◌≤◌, ◌↔◌, List, [], ◌∷◌, length, map, All}
use Rattle.std.specs.Prelude.{slice_index_or, slice_get, IsTrue}
use Rattle.std.specs.Prelude.{Some}
use Rattle.crpd_base.specs.Limits.{most_nodes}
use Rattle.flat_graph.specs.Graph.{IsGraph, IsLeader}
use Rattle.flat_graph.specs.CodeGraph.{GraphNode, CodeGraph, graph_of, HasCode}
use Rattle.flat_graph.specs.declared.graph.NextNodes.{NextNodes}
use Rattle.flat_graph.specs.declared.graph.NextNodes.TheVariants.{Ends, To, Either}
use Rattle.flat_graph.specs.declared.graph.StoredNode.{StoredNode}

-- the stored successors of a node
abbrev pub next_nodes : NextNodes → List ℕ
next_nodes Ends = []
next_nodes (To v) = v ∷ []
next_nodes (Either v w) = v ∷ w ∷ []

-- the node of a stored entry, with the list of contexts
abbrev pub stored_node : List (List ℕ) → StoredNode → GraphNode
stored_node contexts n = record {
  context = slice_index_or contexts n.context [];
  address = n.address;
  ins = n.ins;
  next = next_nodes n.next;
}

-- the graph of stored contexts, nodes and the first node's number
abbrev pub stored_graph : List (List ℕ) → List StoredNode → ℕ → CodeGraph
stored_graph contexts nodes first = record {
  nodes = map (stored_node contexts) nodes;
  first = first;
}

-- a stored graph is the graph of some code, and its nodes have their leader flags
pub record IsStoredGraph (contexts : List (List ℕ)) (nodes : List StoredNode)
    (first : ℕ) : Type 0 where
  pub of_code : HasCode (stored_graph contexts nodes first)
  pub graph : IsGraph (graph_of (stored_graph contexts nodes first))
  pub contexts_there : All (λ (n : StoredNode). n.context < length contexts) nodes
  pub few : length nodes ≤ most_nodes
  pub leaders : (u : ℕ) (n : StoredNode) → slice_get nodes u ≡ Some n
      → IsTrue n.leader ↔ IsLeader (graph_of (stored_graph contexts nodes first)) u
