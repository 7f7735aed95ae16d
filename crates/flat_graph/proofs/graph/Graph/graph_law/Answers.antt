use Rattle.std.proofs.Common.{ℕ, ◌≤◌, length, subst}
use Rattle.flat_graph.specs.CodeGraph.{CodeGraph, node_of}
use Rattle.flat_graph.proofs.Kept.{two_at}
use Rattle.flat_graph.proofs.graph.Graph.graph_law.Goals as goal

pub returns-clause-successors : goal.returns-clause-successors
returns-clause-successors c =
    subst (λ (g : CodeGraph). (u : ℕ) → length (node_of g u).next ≤ 2) c.self.view_is
    (two_at c.self.inside.contexts c.self.inside.nodes)
