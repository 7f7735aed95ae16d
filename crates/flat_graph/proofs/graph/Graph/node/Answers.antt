use Rattle.std.proofs.Common.{ap}
use Rattle.flat_graph.specs.CodeGraph.{GraphNode}
use Rattle.flat_graph.proofs.Kept.{kept_within, kept_node}
use Rattle.flat_graph.proofs.graph.Graph.node.Goals as goal

pub index-node-requires : goal.index-node-requires
index-node-requires c =
    kept_within c.self.inside.contexts c.self.inside.nodes c.self.inside.first c.args.self.now
    c.self.view_is c.args.id.0 c.requires

pub returns-clause-address : goal.returns-clause-address
returns-clause-address c =
    ap (λ (n : GraphNode). n.address)
    (kept_node c.self.inside.contexts c.self.inside.nodes c.self.inside.first c.args.self.now
    c.self.view_is c.args.id.0 c.requires
    c.index-node.result.now c.index-node.ensures)

pub returns-clause-instruction : goal.returns-clause-instruction
returns-clause-instruction c =
    ap (λ (n : GraphNode). n.ins)
    (kept_node c.self.inside.contexts c.self.inside.nodes c.self.inside.first c.args.self.now
    c.self.view_is c.args.id.0 c.requires
    c.index-node.result.now c.index-node.ensures)
