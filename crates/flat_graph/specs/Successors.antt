-- The successors of a node.
use Rattle.std.specs.Prelude.{◌≡◌, ℕ, List, Option}
use Rattle.std.specs.Iterator.{YieldsFirstBy}
use Rattle.crpd_base.specs.declared.data.NodeId.{NodeId}
use Rattle.flat_graph.specs.CodeGraph.{CodeGraph, graph_of, places_of, HasCode}
use Rattle.flat_graph.specs.Graph.{Edge}

-- a step gives the first of the remaining nodes
abbrev pub GivesFirst : List ℕ → Option NodeId → List ℕ → Type 0
GivesFirst = YieldsFirstBy (λ (n : NodeId). n.0) (λ left. left)

-- two successors of a node at one address are the same node
abbrev pub OneSuccessorLaw : Type 0
OneSuccessorLaw =
    (g : CodeGraph) (u v w : ℕ) → HasCode g → Edge (graph_of g) u v → Edge (graph_of g) u w →
    (places_of g).address v ≡ (places_of g).address w → v ≡ w
