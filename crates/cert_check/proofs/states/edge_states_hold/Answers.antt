use Rattle.std.proofs.Common.{List, ℕ, All, refl, sym, ◌∙◌, subst}
use Rattle.std.proofs.lemmas.Bool.{false≢true}
use Rattle.std.proofs.lemmas.Iterator.Consumers.{YieldsList-end, YieldsList-from_first}
use Rattle.std.proofs.lemmas.Iterator.Consumers.{YieldsList-turn}
use Rattle.crpd_base.specs.declared.data.NodeId.{NodeId}
use Rattle.flat_graph.specs.CodeGraph.{graph_of}
use Rattle.evict_sets.specs.ListedPart.{listed_of}
use Rattle.evict_sets.specs.Listing.{node_accesses}
use Rattle.cert_check.specs.Inner.JudgedNodes.{EdgeStateMeets}
use Rattle.cert_check.proofs.EachNext.{one_more, not_each}
use Rattle.cert_check.proofs.states.edge_states_hold.Goals as goal

pub loop-next-preserved : goal.loop-next-preserved
loop-next-preserved c =
    let g = graph_of c.args.listing.now.graph.now in
    let P : ℕ → Type 0 = EdgeStateMeets g
    (node_accesses c.args.listing.now.platform.now c.args.listing.now.graph.now)
    (listed_of c.args.listing.now.part.now) c.args.node.0 in
    one_more P c.loop-next.yielded c.in-Some.next c.loop-next.invariant
    (c.edge_state_holds.ensures.0 c.if-not-edge_state_holds.false)

pub returns-then-not-edge_state_holds : goal.returns-then-not-edge_state_holds
returns-then-not-edge_state_holds c =
    let g = graph_of c.args.listing.now.graph.now in
    let P : ℕ → Type 0 = EdgeStateMeets g
    (node_accesses c.args.listing.now.platform.now c.args.listing.now.graph.now)
    (listed_of c.args.listing.now.part.now) c.args.node.0 in
    let turn = YieldsList-turn
    (YieldsList-from_first (λ (n : NodeId). n.0) (λ (left : List ℕ). left)
    (g.next c.args.node.0) cc)
    c.loop-next.yielded _ c.loop-next.yielded_by _ _ c.in-Some.next c.in-Some.is
    c.next.ensures.steps in (
      (λ t. absurd (false≢true t)),
      (λ all. absurd (not_each P (g.next c.args.node.0) _ c.in-Some.next.0 turn
          (λ p. false≢true (sym c.if-not-edge_state_holds.true ∙ c.edge_state_holds.ensures.1 p)) all)),
    )

pub returns : goal.returns
returns c =
    let g = graph_of c.args.listing.now.graph.now in
    let P : ℕ → Type 0 = EdgeStateMeets g
    (node_accesses c.args.listing.now.platform.now c.args.listing.now.graph.now)
    (listed_of c.args.listing.now.part.now) c.args.node.0 in
    let all = YieldsList-end
    (YieldsList-from_first (λ (n : NodeId). n.0) (λ (left : List ℕ). left)
    (g.next c.args.node.0) cc)
    c.loop-next.yielded _ c.loop-next.yielded_by _ _ c.in-None.is c.next.ensures.steps in
    ((λ t. subst (All P) all.0 c.loop-next.invariant), (λ h. refl))
