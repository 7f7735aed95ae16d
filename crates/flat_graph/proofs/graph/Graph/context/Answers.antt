use Rattle.std.proofs.Common.{◌<◌, ◌∙◌, [], length, sym, ap, subst}
use Rattle.std.proofs.lemmas.List.{get_or_default}
use Rattle.flat_graph.specs.CodeGraph.{GraphNode}
use Rattle.flat_graph.specs.declared.graph.StoredNode.{StoredNode}
use Rattle.flat_graph.proofs.Kept.{kept_within, kept_node}
use Rattle.flat_graph.proofs.graph.Graph.context.Goals as goal

pub index-node-requires : goal.index-node-requires
index-node-requires c =
    kept_within c.self.inside.contexts c.self.inside.nodes c.self.inside.first c.args.self.now
    c.self.view_is c.args.id.0 c.requires

pub index-context-requires : goal.index-context-requires
index-context-requires c =
    subst (λ (s : StoredNode). s.context < length c.self.inside.contexts) (sym c.index-node.ensures)
    (c.self.invariant.contexts_there c.args.id.0 c.index-node.result.now
    (kept_within c.self.inside.contexts c.self.inside.nodes c.self.inside.first c.args.self.now
    c.self.view_is c.args.id.0 c.requires))

pub returns : goal.returns
returns c =
    let node = c.index-node.result.now in
    let there = subst (λ (s : StoredNode). s.context < length c.self.inside.contexts)
    (sym c.index-node.ensures)
    (c.self.invariant.contexts_there c.args.id.0 node
    (kept_within c.self.inside.contexts c.self.inside.nodes c.self.inside.first c.args.self.now
    c.self.view_is c.args.id.0 c.requires)) in
    c.as_slice.ensures ∙ c.context.view_is ∙ c.index-context.ensures
    ∙ get_or_default c.self.inside.contexts node.context c.index-context.result.now [] there
    ∙ ap (λ (n : GraphNode). n.context)
    (kept_node c.self.inside.contexts c.self.inside.nodes c.self.inside.first c.args.self.now
    c.self.view_is c.args.id.0 c.requires
    node c.index-node.ensures)
