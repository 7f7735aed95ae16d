use Rattle.std.proofs.Common.{ℕ, List, subst}
use Rattle.std.proofs.lemmas.Iterator.Consumers.{YieldsList-end, YieldsList-from_first}
use Rattle.crpd_base.specs.declared.data.NodeId.{NodeId}
use Rattle.flat_graph.specs.CodeGraph.{graph_of}
use Rattle.loop_regions.specs.CodeNest.{nest_of}
use Rattle.exec_bound.proofs.Values.{NoneWaits, one_settled, all_settled}
use Rattle.exec_bound.proofs.costed.Costed.unsettled_after.Goals as goal

pub loop-next-preserved : goal.loop-next-preserved
loop-next-preserved c =
    one_settled (graph_of c.args.self.now.graph.now) (nest_of c.args.self.now.nest.now)
    c.args.values.now.settled.items c.args.node.0 c.loop-next.yielded c.in-Some.next
    c.loop-next.invariant (rw c.if-waits_for.false at c.waits_for.ensures)

pub returns-then-waits_for : goal.returns-then-waits_for
returns-then-waits_for c = rw c.if-waits_for.true at c.waits_for.ensures

pub returns : goal.returns
returns c =
    let g = graph_of c.args.self.now.graph.now in
    let n = nest_of c.args.self.now.nest.now in
    let done = c.args.values.now.settled.items in
    let all = YieldsList-end
    (YieldsList-from_first (λ (n : NodeId). n.0) (λ (left : List ℕ). left)
    (g.next c.args.node.0) cc)
    c.loop-next.yielded _ c.loop-next.yielded_by _ _ c.in-None.is c.next.ensures.steps in
    all_settled g n done c.args.node.0
    (subst (NoneWaits g n done c.args.node.0) all.0 c.loop-next.invariant)
