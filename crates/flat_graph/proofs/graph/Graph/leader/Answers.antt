use Rattle.std.proofs.Common.{◌↔◌, IsTrue, length, refl, subst}
use Rattle.std.proofs.lemmas.Option.{slice_get_read}
use Rattle.flat_graph.specs.CodeGraph.{CodeGraph, graph_of}
use Rattle.flat_graph.specs.Graph.{IsLeader}
use Rattle.flat_graph.proofs.Kept.{kept_within}
use Rattle.flat_graph.proofs.graph.Graph.leader.Goals as goal

pub index-requires : goal.index-requires
index-requires c =
    kept_within c.self.inside.contexts c.self.inside.nodes c.self.inside.first c.args.self.now
    c.self.view_is c.args.id.0 c.requires

pub returns : goal.returns
returns c =
    let nodes = c.self.inside.nodes in
    let n = c.index.result.now in
    subst (λ (g : CodeGraph). IsTrue n.leader ↔ IsLeader (graph_of g) c.args.id.0) c.self.view_is
    (c.self.invariant.leaders c.args.id.0 n
    (slice_get_read nodes (length nodes) c.args.id.0 n refl
    (kept_within c.self.inside.contexts c.self.inside.nodes c.self.inside.first c.args.self.now
    c.self.view_is c.args.id.0 c.requires)
    c.index.ensures))
