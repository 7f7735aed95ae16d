use Rattle.std.proofs.Common.{◌<◌, List, ℕ, true, false, length, set, sym, ◌∙◌, subst, arith}
use Rattle.std.proofs.Common.{get_or-set_same, All}
use Rattle.std.proofs.lemmas.Bool.{both_ways}
use Rattle.std.proofs.lemmas.List.{length-set, get_or_default}
use Rattle.std.proofs.lemmas.List.Elements.{All-push, All-map}
use Rattle.std.proofs.lemmas.Iterator.Consumers.{YieldsList-end, YieldsList-from_first}
use Rattle.std.proofs.lemmas.Iterator.Consumers.{YieldsList-turn}
use Rattle.crpd_base.specs.declared.data.NodeId.{NodeId}
use Rattle.flat_graph.specs.Graph.{Edge}
use Rattle.flat_graph.specs.CodeGraph.{graph_of}
use Rattle.flat_graph.proofs.Nexts.{all_at_edges}
use Rattle.loop_regions.specs.Inner.FoundRegions.{nest_in}
use Rattle.loop_regions.specs.Inner.ForwardPaths.{IsFollowed}
use Rattle.loop_regions.proofs.Searching.{edge_found, all_followed, seen_stays, search_falls}
use Rattle.loop_regions.proofs.Turns.{next_below}
use Rattle.loop_regions.proofs.cycles.Search.follow.Goals as goal
use Rattle.loop_regions.proofs.cycles.Search.follow.Goals.{then-is_back-via-then-is_back}
use Rattle.loop_regions.proofs.cycles.Search.follow.Goals.{then-is_back-via-else-is_back+then-index}

-- a back edge, or an edge to a seen node
pub loop-next-preserved-then-is_back : goal.loop-next-preserved-then-is_back
loop-next-preserved-then-is_back c =
    let g = graph_of c.args.graph.now in
    let n = nest_in c.args.regions.now in
    let seen = c.loop-next.self.seen.items in
    let kept = c.loop-next.invariant in
    let v = c.in-Some.next.0 in
    let lt : Edge g c.args.u v → v < length seen = λ e. rw kept.nodes
    (all_at_edges g c.args.u (λ x. x < g.size) c.successors-next-items.ensures.nodes v e) in
    record {
      nodes = kept.nodes;
      search = kept.search;
      falls = kept.falls;
      followed = All-push (λ (x : NodeId). IsFollowed g n seen c.args.u x.0) c.loop-next.yielded
          c.in-Some.next kept.followed
          (λ f. elim c.then-is_back.branch [
            | then-is_back-via-then-is_back w ↦ absurd (f.1 (c.is_back.ensures.0 w.if-is_back.true))
            | then-is_back-via-else-is_back+then-index w ↦
                sym (get_or_default seen v w.index.result.now false (lt f.0)) ∙ sym w.index.ensures
                ∙ w.if-index.true
          ]);
    }

pub loop-next-preserved : goal.loop-next-preserved
loop-next-preserved c =
    let g = graph_of c.args.graph.now in
    let n = nest_in c.args.regions.now in
    let seen = c.loop-next.self.seen.items in
    let kept = c.loop-next.invariant in
    let v = c.in-Some.next.0 in
    let done = c.loop-next.yielded in
    let turn = YieldsList-turn
    (YieldsList-from_first (λ (n : NodeId). n.0) (λ (left : List ℕ). left) (g.next c.args.u) cc)
    done _ c.loop-next.yielded_by _ _ c.in-Some.next c.in-Some.is c.next.ensures.steps in
    let edge : Edge g c.args.u v = (c.requires.node, (length done, turn.0, sym turn.1)) in
    let lt : v < length seen = rw kept.nodes
    (all_at_edges g c.args.u (λ x. x < g.size) c.successors-next-items.ensures.nodes v edge) in
    let falls = search_falls seen c.loop-next.self.waiting.items v lt
    (sym (get_or_default seen v c.index.result.now false lt) ∙ sym c.index.ensures
    ∙ c.if-index.false) in
    record {
      nodes = length-set seen v true ∙ kept.nodes;
      search = λ y R. rw c.in_ok-push.ensures.items
          (edge_found g n y seen c.loop-next.self.waiting.items c.args.u v lt
          (edge, λ b. both_ways c.is_back.result c.if-is_back.false (c.is_back.ensures.1 b))
          (kept.search y R));
      falls = rw c.in_ok-push.ensures.items (omega (arith, falls, kept.falls));
      followed = All-push (λ (x : NodeId). IsFollowed g n (set seen v true) c.args.u x.0) done
          c.in-Some.next (λ k d below f. seen_stays seen v _ lt (kept.followed k d below f))
          (λ f. get_or-set_same seen v true false lt);
    }

pub returns-clause-search : goal.returns-clause-search
returns-clause-search c y R =
    let g = graph_of c.args.graph.now in
    let done = c.loop-next.yielded in
    let P = IsFollowed g (nest_in c.args.regions.now) c.loop-next.self.seen.items c.args.u in
    let all = YieldsList-end
    (YieldsList-from_first (λ (n : NodeId). n.0) (λ (left : List ℕ). left) (g.next c.args.u) cc)
    done _ c.loop-next.yielded_by _ _ c.in-None.is c.next.ensures.steps in
    all_followed g (nest_in c.args.regions.now) y c.loop-next.self.seen.items
    c.loop-next.self.waiting.items c.args.u
    (subst (All P) all.0 (All-map P (λ (n : NodeId). n.0) done c.loop-next.invariant.followed))
    (c.loop-next.invariant.search y R)

pub index-requires : goal.index-requires
index-requires c =
    let g = graph_of c.args.graph.now in
    let lt = next_below g.size (g.next c.args.u) (cc) c.successors-next-items.ensures.nodes
    c.loop-next.yielded _ c.loop-next.yielded_by _ _ c.in-Some.next c.in-Some.is
    c.next.ensures.steps in
    omega (arith, lt, c.loop-next.invariant.nodes)

pub index_mut-requires : goal.index_mut-requires
index_mut-requires c =
    let g = graph_of c.args.graph.now in
    let lt = next_below g.size (g.next c.args.u) (cc) c.successors-next-items.ensures.nodes
    c.loop-next.yielded _ c.loop-next.yielded_by _ _ c.in-Some.next c.in-Some.is
    c.next.ensures.steps in
    omega (arith, lt, c.loop-next.invariant.nodes)
