use Rattle.std.proofs.Common.{ap}
use Rattle.flat_graph.specs.CodeGraph.{GraphNode}
use Rattle.flat_graph.proofs.Kept.{kept_within, kept_node}
use Rattle.flat_graph.proofs.graph.Graph.ins.Goals as goal

pub index-requires : goal.index-requires
index-requires c =
    kept_within c.self.inside.contexts c.self.inside.nodes c.self.inside.first c.args.self.now
    c.self.view_is c.args.id.0 c.requires

pub returns : goal.returns
returns c =
    ap (λ (n : GraphNode). n.ins)
    (kept_node c.self.inside.contexts c.self.inside.nodes c.self.inside.first c.args.self.now
    c.self.view_is c.args.id.0 c.requires
    c.index.result.now c.index.ensures)
