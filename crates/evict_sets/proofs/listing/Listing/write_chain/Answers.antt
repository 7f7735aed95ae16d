use Rattle.std.proofs.Common.{◌+◌, subst, arith, length-set}
use Rattle.flat_graph.specs.CodeGraph.{graph_of}
use Rattle.evict_sets.specs.ListedPart.{listed_of}
use Rattle.evict_sets.proofs.Chains.{ChainTo, start_room, chain_start, chain_room, chain_node}
use Rattle.evict_sets.proofs.Chains.{chain_more, chain_closed}
use Rattle.evict_sets.proofs.listing.Listing.write_chain.Goals as goal

pub bounds-order-start : goal.bounds-order-start
bounds-order-start c =
    start_room (graph_of c.args.self.now.graph.now) (listed_of c.args.self.now.part.now)
    c.graph_law.ensures.graph c.requires.case.leaders c.args.order.now c.args.start c.args.node.0
    c.requires.size c.requires.line c.requires.all c.requires.node c.requires.listed

pub loop-last-init : goal.loop-last-init
loop-last-init c =
    chain_start (graph_of c.args.self.now.graph.now) (listed_of c.args.self.now.part.now)
    c.graph_law.ensures.graph c.requires.case.leaders c.args.order.now c.args.start c.args.node.0
    c.follower-last.result c.requires.size c.requires.line c.requires.closed c.requires.all
    c.requires.node c.requires.listed c.follower-last.ensures

pub bounds-order-count : goal.bounds-order-count
bounds-order-count c =
    chain_room (graph_of c.args.self.now.graph.now) (listed_of c.args.self.now.part.now)
    c.graph_law.ensures.graph c.requires.case.leaders c.loop-last.order c.loop-last.count
    (c.args.node.0 + 1) c.in-Some.next
    (subst (λ o. ChainTo (graph_of c.args.self.now.graph.now) (listed_of c.args.self.now.part.now)
    c.loop-last.order c.loop-last.count (c.args.node.0 + 1) o) c.in-Some.is c.loop-last.invariant)

pub follower-last-requires-in-Some-clause-node : goal.follower-last-requires-in-Some-clause-node
follower-last-requires-in-Some-clause-node c =
    chain_node (graph_of c.args.self.now.graph.now) (listed_of c.args.self.now.part.now)
    c.graph_law.ensures.graph c.requires.case.leaders c.loop-last.order c.loop-last.count
    (c.args.node.0 + 1) c.in-Some.next
    (subst (λ o. ChainTo (graph_of c.args.self.now.graph.now) (listed_of c.args.self.now.part.now)
    c.loop-last.order c.loop-last.count (c.args.node.0 + 1) o) c.in-Some.is c.loop-last.invariant)

pub loop-last-smaller : goal.loop-last-smaller
loop-last-smaller c =
    let room = chain_room (graph_of c.args.self.now.graph.now) (listed_of c.args.self.now.part.now)
    c.graph_law.ensures.graph c.requires.case.leaders c.loop-last.order c.loop-last.count
    (c.args.node.0 + 1) c.in-Some.next
    (subst (λ o. ChainTo (graph_of c.args.self.now.graph.now) (listed_of c.args.self.now.part.now)
    c.loop-last.order c.loop-last.count (c.args.node.0 + 1) o) c.in-Some.is
    c.loop-last.invariant) in
    let long = length-set c.loop-last.order c.loop-last.count c.in-Some.next.0 in
    omega (arith, room, long)

pub loop-last-preserved : goal.loop-last-preserved
loop-last-preserved c =
    chain_more (graph_of c.args.self.now.graph.now) (listed_of c.args.self.now.part.now)
    c.graph_law.ensures.graph c.requires.case.leaders c.loop-last.order c.loop-last.count
    (c.args.node.0 + 1) c.in-Some.next c.follower-last-in-Some.result
    (subst (λ o. ChainTo (graph_of c.args.self.now.graph.now) (listed_of c.args.self.now.part.now)
    c.loop-last.order c.loop-last.count (c.args.node.0 + 1) o) c.in-Some.is c.loop-last.invariant)
    c.follower-last-in-Some.ensures

pub returns-clause-closed : goal.returns-clause-closed
returns-clause-closed c =
    chain_closed (graph_of c.args.self.now.graph.now) (listed_of c.args.self.now.part.now)
    c.loop-last.order c.loop-last.count (c.args.node.0 + 1)
    (subst (λ o. ChainTo (graph_of c.args.self.now.graph.now) (listed_of c.args.self.now.part.now)
    c.loop-last.order c.loop-last.count (c.args.node.0 + 1) o) c.in_default.is
    c.loop-last.invariant)
