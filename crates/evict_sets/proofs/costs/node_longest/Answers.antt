use Rattle.std.proofs.Common.{◌≡◌, ◌++◌, ◌∷◌, [], max, map, false, ap, ◌∙◌, arith}
use Rattle.std.proofs.lemmas.List.{map-append}
use Rattle.crpd_base.specs.declared.data.NodeId.{NodeId}
use Rattle.flat_graph.specs.CodeGraph.{node_code}
use Rattle.flat_graph.specs.EdgeCost.{edge_cost}
use Rattle.evict_sets.specs.Longest.{greatest_of}
use Rattle.evict_sets.proofs.EdgeCosts.{greatest_more}
use Rattle.evict_sets.proofs.costs.node_longest.Goals as goal

pub loop-next-preserved : goal.loop-next-preserved
loop-next-preserved c =
    let f = edge_cost c.args.platform.now (node_code c.args.graph.now) (λ y. false) c.args.id.0 in
    let vs = map (λ (n : NodeId). n.0) c.loop-next.yielded in
    let more : greatest_of f
    (map (λ (n : NodeId). n.0) (c.loop-next.yielded ++ c.in-Some.next ∷ []))
    ≡ max (f c.in-Some.next.0) (greatest_of f vs) =
    ap (greatest_of f)
    (map-append (λ (n : NodeId). n.0) c.loop-next.yielded (c.in-Some.next ∷ []))
    ∙ greatest_more f vs c.in-Some.next.0 in
    omega (
      arith,
      more,
      c.max-greatest.ensures,
      c.edge_cost.ensures.cost,
      c.loop-next.invariant,
    )
