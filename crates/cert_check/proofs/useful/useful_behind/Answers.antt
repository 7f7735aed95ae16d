use Rattle.std.proofs.Common.{◌∷◌, [], List, ℕ, map, sym, subst}
use Rattle.std.proofs.lemmas.List.{map-append}
use Rattle.std.proofs.lemmas.Iterator.Consumers.{YieldsList-end, YieldsList-from_first}
use Rattle.crpd_base.specs.declared.data.NodeId.{NodeId}
use Rattle.flat_graph.specs.CodeGraph.{graph_of}
use Rattle.evict_sets.specs.ListedPart.{listed_of}
use Rattle.evict_sets.specs.Listing.{node_accesses}
use Rattle.cert_check.proofs.UsefulSets.{IsUsefulAtSome, none_useful, more_useful, all_useful}
use Rattle.cert_check.proofs.useful.useful_behind.Goals as goal

pub loop-next-init : goal.loop-next-init
loop-next-init c =
    none_useful (graph_of c.args.listing.now.graph.now)
    (node_accesses c.args.listing.now.platform.now c.args.listing.now.graph.now)
    (listed_of c.args.listing.now.part.now) c.new-sets.result c.new-sets.ensures

pub loop-next-preserved : goal.loop-next-preserved
loop-next-preserved c =
    let g = graph_of c.args.listing.now.graph.now in
    let a = node_accesses c.args.listing.now.platform.now c.args.listing.now.graph.now in
    let l = listed_of c.args.listing.now.part.now in
    subst (λ vs. IsUsefulAtSome g a l vs c.union.new.self)
    (sym (map-append (λ (n : NodeId). n.0) c.loop-next.yielded (c.in-Some.next ∷ [])))
    (more_useful g a l (map (λ (n : NodeId). n.0) c.loop-next.yielded) c.in-Some.next.0
    c.loop-next.sets c.useful_next.result c.union.new.self c.loop-next.invariant
    c.useful_next.ensures c.union.ensures)

pub returns : goal.returns
returns c =
    let g = graph_of c.args.listing.now.graph.now in
    let a = node_accesses c.args.listing.now.platform.now c.args.listing.now.graph.now in
    let l = listed_of c.args.listing.now.part.now in
    let all = YieldsList-end
    (YieldsList-from_first (λ (n : NodeId). n.0) (λ (left : List ℕ). left)
    (g.next c.args.node.0) cc)
    c.loop-next.yielded _ c.loop-next.yielded_by _ _ c.in-None.is c.next.ensures.steps in
    all_useful g a l c.args.node.0 c.loop-next.sets c.requires.node
    (subst (λ vs. IsUsefulAtSome g a l vs c.loop-next.sets) all.0 c.loop-next.invariant)
