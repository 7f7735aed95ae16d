-- The edges of a graph as a list.
use Rattle.std.specs.Prelude.{ℕ, List, Contains, ◌↔◌}
use Rattle.flat_graph.specs.Graph.{Graph, Edge}
use Rattle.dataflow.specs.Edges.{IsEdgeList}

-- the list has exactly the graph's edges
pub record AreGraphEdges (g : Graph) (edges : List (ℕ × ℕ)) : Type 0 where
  pub list : IsEdgeList g.size edges
  pub each : (u v : ℕ) → Contains edges (u, v) ↔ Edge g u v
