use Rattle.flat_graph.specs.Graph.{Edge}
use Rattle.flat_graph.specs.CodeGraph.{GraphNode, graph_of}
use Rattle.std.proofs.Common.{◌<◌, ap}
use Rattle.flat_graph.proofs.Kept.{kept_within, kept_node}
use Rattle.flat_graph.proofs.Nexts.{edges_at_all}
use Rattle.flat_graph.proofs.graph.Graph.successors.Goals as goal

pub returns-clause-edges : goal.returns-clause-edges
returns-clause-edges c =
    edges_at_all (graph_of c.args.self.now) c.args.id.0
    (Edge (graph_of c.args.self.now) c.args.id.0) c.requires (λ v e. e)

pub returns-clause-nodes : goal.returns-clause-nodes
returns-clause-nodes c =
    edges_at_all (graph_of c.args.self.now) c.args.id.0 (λ v. v < (graph_of c.args.self.now).size)
    c.requires (λ v e. c.graph_law.ensures.graph.edges c.args.id.0 v e)

pub index-requires : goal.index-requires
index-requires c =
    kept_within c.self.inside.contexts c.self.inside.nodes c.self.inside.first c.args.self.now
    c.self.view_is c.args.id.0 c.requires

pub returns-clause-are : goal.returns-clause-are
returns-clause-are c =
    ap (λ (n : GraphNode). n.next)
    (kept_node c.self.inside.contexts c.self.inside.nodes c.self.inside.first c.args.self.now
    c.self.view_is c.args.id.0 c.requires
    c.index.result.now c.index.ensures)
