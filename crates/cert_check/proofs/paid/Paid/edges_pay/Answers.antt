use Rattle.std.proofs.Common.{List, ℕ, All, refl, sym, ◌∙◌, subst}
use Rattle.std.proofs.lemmas.Bool.{false≢true}
use Rattle.std.proofs.lemmas.Iterator.Consumers.{YieldsList-end, YieldsList-from_first}
use Rattle.std.proofs.lemmas.Iterator.Consumers.{YieldsList-turn}
use Rattle.crpd_base.specs.declared.data.NodeId.{NodeId}
use Rattle.flat_graph.specs.CodeGraph.{graph_of}
use Rattle.loop_regions.specs.CodeNest.{nest_of}
use Rattle.cert_check.specs.ListedPotentials.{potentials_of}
use Rattle.cert_check.specs.Inner.JudgedNodes.{counted}
use Rattle.loop_regions.specs.Potentials.{costs_of}
use Rattle.cert_check.specs.Inner.JudgedPotentials.{EdgePaid}
use Rattle.cert_check.proofs.EachNext.{one_more, not_each}
use Rattle.cert_check.proofs.paid.Paid.edges_pay.Goals as goal

pub loop-next-preserved : goal.loop-next-preserved
loop-next-preserved c =
    let P : ℕ → Type 0 = EdgePaid (nest_of c.args.self.now.nest.now)
    (costs_of c.args.self.now.platform.now c.args.self.now.graph.now
    (counted c.args.self.now.hits.now)) (potentials_of c.args.self.now.part.now) c.args.node.0 in
    one_more P c.loop-next.yielded c.in-Some.next c.loop-next.invariant
    (c.edge_pays.ensures.0 c.if-not-edge_pays.false)

pub returns-then-not-edge_pays : goal.returns-then-not-edge_pays
returns-then-not-edge_pays c =
    let g = graph_of c.args.self.now.graph.now in
    let P : ℕ → Type 0 = EdgePaid (nest_of c.args.self.now.nest.now)
    (costs_of c.args.self.now.platform.now c.args.self.now.graph.now
    (counted c.args.self.now.hits.now)) (potentials_of c.args.self.now.part.now) c.args.node.0 in
    let turn = YieldsList-turn
    (YieldsList-from_first (λ (n : NodeId). n.0) (λ (left : List ℕ). left)
    (g.next c.args.node.0) cc)
    c.loop-next.yielded _ c.loop-next.yielded_by _ _ c.in-Some.next c.in-Some.is
    c.next.ensures.steps in (
      (λ t. absurd (false≢true t)),
      (λ all. absurd (not_each P (g.next c.args.node.0) _ c.in-Some.next.0 turn
          (λ p. false≢true (sym c.if-not-edge_pays.true ∙ c.edge_pays.ensures.1 p)) all)),
    )

pub returns : goal.returns
returns c =
    let g = graph_of c.args.self.now.graph.now in
    let P : ℕ → Type 0 = EdgePaid (nest_of c.args.self.now.nest.now)
    (costs_of c.args.self.now.platform.now c.args.self.now.graph.now
    (counted c.args.self.now.hits.now)) (potentials_of c.args.self.now.part.now) c.args.node.0 in
    let all = YieldsList-end
    (YieldsList-from_first (λ (n : NodeId). n.0) (λ (left : List ℕ). left)
    (g.next c.args.node.0) cc)
    c.loop-next.yielded _ c.loop-next.yielded_by _ _ c.in-None.is c.next.ensures.steps in
    ((λ t. subst (All P) all.0 c.loop-next.invariant), (λ h. refl))
