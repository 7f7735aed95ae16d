use Rattle.std.proofs.Common.{◌<◌, Some, [], ◌∷◌, ◌++◌, length, ap, ◌∙◌, arith, refl}
use Rattle.dataflow.proofs.Depth.{find, follow, leave, its_edge, same_search, falls_once}
use Rattle.dataflow.proofs.Depth.{falls_twice}
use Rattle.dataflow.proofs.Chain.{read_before, falls_back}
use Rattle.dataflow.proofs.order.DepthFirst.visit.Goals as goal

pub index-requires-in-Some : goal.index-requires-in-Some
index-requires-in-Some g c =
    let e = its_edge _ _ _ _ _ _ c.args.node c.in-Some.k _ c.requires.search c.requires.node
    c.index.ensures c.in-Some.is in
    omega (arith, e.0, c.requires.edges.all_edges)

pub edge-target-requires : goal.edge-target-requires
edge-target-requires g c =
    (its_edge _ _ _ _ _ _ c.args.node c.in-Some.k _ c.requires.search c.requires.node
    c.index.ensures c.in-Some.is).0

pub returns-in_ok-find-in-Some-clause-search : goal.returns-in_ok-find-in-Some-clause-search
returns-in_ok-find-in-Some-clause-search g c =
    let e = its_edge _ _ _ _ _ _ c.args.node c.in-Some.k _ c.requires.search c.requires.node
    c.index.ensures c.in-Some.is in
    let before = read_before _ _ c.in-Some.k _ (g.G.Flow.ends c.args.flow.now) _ _
    c.index-in-Some.result.now c.requires.edges e.0 refl c.index-in-Some.ensures in
    let followed = follow (g.G.Flow.node_count c.args.flow.now)
    (g.G.Flow.edge_count c.args.flow.now) c.args.self.now.seen.items c.args.self.now.next.items _
    c.args.self.now.left.items c.args.node c.index-in-Some.result.now c.requires.node
    (λ k h. omega (arith, before.edge k h, e.0)) c.requires.search in
    same_search _ _ _ _ _ _ _ _ _ _ c.in_ok-find-in-Some.ensures.seen
    (ap (λ v. v.items) c.find.ensures.next)
    (c.in_ok-find-in-Some.ensures.path
    ∙ ap (λ p. p ++ c.edge-target.result.1 ∷ []) c.in_ok-push-in-Some.ensures.items)
    (ap (λ v. v.items) c.find.ensures.left)
    (find _ _ _ _ _ _ c.edge-target.result.1 c.edge-target.ensures.target followed)

pub returns-in_ok-find-in-Some-clause-falls : goal.returns-in_ok-find-in-Some-clause-falls
returns-in_ok-find-in-Some-clause-falls g c =
    let e = its_edge _ _ _ _ _ _ c.args.node c.in-Some.k _ c.requires.search c.requires.node
    c.index.ensures c.in-Some.is in
    let before = read_before _ _ c.in-Some.k _ (g.G.Flow.ends c.args.flow.now) _ _
    c.index-in-Some.result.now c.requires.edges e.0 refl c.index-in-Some.ensures in
    let low = falls_back (g.G.Flow.ends c.args.flow.now) c.in-Some.k _ c.index-in-Some.result.now
    (Some c.in-Some.k) before refl in
    let within : c.args.node < length c.args.self.now.next.items =
    omega (arith, c.requires.search.next_nodes, c.requires.node) in
    falls_twice _ _ _ _ _ c.args.node c.edge-target.result.1 c.in-Some.k c.index-in-Some.result.now
    within e.1 low
    (ap (λ v. v.items) c.find.ensures.next) c.in_ok-push-in-Some.ensures.items
    c.in_ok-find-in-Some.ensures.path

pub returns-else-not-index-clause-search : goal.returns-else-not-index-clause-search
returns-else-not-index-clause-search g c =
    let e = its_edge _ _ _ _ _ _ c.args.node c.in-Some.k _ c.requires.search c.requires.node
    c.index.ensures c.in-Some.is in
    let before = read_before _ _ c.in-Some.k _ (g.G.Flow.ends c.args.flow.now) _ _
    c.index-in-Some.result.now c.requires.edges e.0 refl c.index-in-Some.ensures in
    let followed = follow (g.G.Flow.node_count c.args.flow.now)
    (g.G.Flow.edge_count c.args.flow.now) c.args.self.now.seen.items c.args.self.now.next.items _
    c.args.self.now.left.items c.args.node c.index-in-Some.result.now c.requires.node
    (λ k h. omega (arith, before.edge k h, e.0)) c.requires.search in
    same_search _ _ _ _ _ _ _ _ _ _ refl refl c.in_ok-push-in-Some.ensures.items refl followed

pub returns-else-not-index-clause-falls : goal.returns-else-not-index-clause-falls
returns-else-not-index-clause-falls g c =
    let e = its_edge _ _ _ _ _ _ c.args.node c.in-Some.k _ c.requires.search c.requires.node
    c.index.ensures c.in-Some.is in
    let before = read_before _ _ c.in-Some.k _ (g.G.Flow.ends c.args.flow.now) _ _
    c.index-in-Some.result.now c.requires.edges e.0 refl c.index-in-Some.ensures in
    let low = falls_back (g.G.Flow.ends c.args.flow.now) c.in-Some.k _ c.index-in-Some.result.now
    (Some c.in-Some.k) before refl in
    let within : c.args.node < length c.args.self.now.next.items =
    omega (arith, c.requires.search.next_nodes, c.requires.node) in
    falls_once _ _ _ _ c.args.node c.in-Some.k c.index-in-Some.result.now within e.1 low refl
    c.in_ok-push-in-Some.ensures.items

pub returns-in_ok-push-in-None-clause-search : goal.returns-in_ok-push-in-None-clause-search
returns-in_ok-push-in-None-clause-search g c =
    same_search _ _ _ _ _ _ _ _ _ _ refl refl refl c.in_ok-push-in-None.ensures.items
    (leave (g.G.Flow.node_count c.args.flow.now) (g.G.Flow.edge_count c.args.flow.now)
    c.args.self.now.seen.items c.args.self.now.next.items _ c.args.self.now.left.items c.args.node
    c.requires.node c.requires.search)
