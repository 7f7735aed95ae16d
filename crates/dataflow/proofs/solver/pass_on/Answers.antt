use Rattle.std.proofs.Common.{◌≡◌, ◌<◌, ◌≤◌, Some, None, length, ap, sym, ◌∙◌, subst, arith}
use Rattle.std.proofs.Common.{option_map, true, false}
use Rattle.std.proofs.lemmas.List.{get_or_default}
use Rattle.dataflow.specs.Problem.{problem, fact_at}
use Rattle.dataflow.specs.Inner.Search.{IsPartialSolution, waits, past_edge, absorbed}
use Rattle.dataflow.proofs.Chain.{read_last, read_before, falls_back}
use Rattle.dataflow.proofs.Solution.{HasLaws, laws_of}
use Rattle.dataflow.proofs.Steps.{none_passed, stepped, still_source}
use Rattle.dataflow.proofs.Writes.{Outcome, outcome_of, step_of, woken_length, left_falls}
use Rattle.dataflow.proofs.solver.pass_on.Goals as goal
use Rattle.dataflow.proofs.solver.pass_on.Goals.{then-absorb, else-absorb}

pub loop-next-init : goal.loop-next-init
loop-next-init g c =
    let last = read_last _ _ c.args.node (g.G.Flow.ends c.args.flow.now) _ _ c.index-next.result.now
    c.requires.edges c.requires.node c.index-next.ensures in
    record {
      waiting = c.requires.waiting;
      edge = last.edge;
      source = c.requires.source;
      under_way =
          none_passed _ _ (laws_of g.D.Domain.Value g.D.Domain.joined (g.D.Domain.passed c.args.domain.now)
          (g.D.Domain.crossed c.args.domain.now) (g.D.Domain.begins c.args.domain.now)
          (g.G.Flow.node_count c.args.flow.now) (g.G.Flow.edge_count c.args.flow.now)
          (g.G.Flow.ends c.args.flow.now) g.met.D.Domain.joins
          (g.met.D.Domain.distributes c.args.domain.now) (g.met.D.Domain.crosses c.args.domain.now)) _ _ _ _ last c.requires.under_way;
      left = omega arith;
    }

pub edge-target-requires : goal.edge-target-requires
edge-target-requires g c = (c.loop-next.invariant.edge c.in-Some.k c.in-Some.is).0

pub loop-next-smaller : goal.loop-next-smaller
loop-next-smaller g c =
    let e = c.loop-next.invariant.edge c.in-Some.k c.in-Some.is in
    falls_back (g.G.Flow.ends c.args.flow.now) c.in-Some.k c.args.node _ _
    (read_before _ _ c.in-Some.k c.args.node (g.G.Flow.ends c.args.flow.now) _ _
    c.index-next-in-Some.result.now c.requires.edges e.0 e.1 c.index-next-in-Some.ensures)
    c.in-Some.is

pub loop-next-preserved : goal.loop-next-preserved
loop-next-preserved g c =
    let e = c.loop-next.invariant.edge c.in-Some.k c.in-Some.is in
    let before = read_before _ _ c.in-Some.k c.args.node (g.G.Flow.ends c.args.flow.now) _ _
    c.index-next-in-Some.result.now c.requires.edges e.0 e.1 c.index-next-in-Some.ensures in
    let laws : HasLaws g.D.Domain.Value
    (problem g.D.Domain.joined (g.D.Domain.passed c.args.domain.now) (g.D.Domain.crossed c.args.domain.now)
    (g.D.Domain.begins c.args.domain.now) (g.G.Flow.node_count c.args.flow.now)
    (g.G.Flow.edge_count c.args.flow.now) (g.G.Flow.ends c.args.flow.now))
    = laws_of g.D.Domain.Value g.D.Domain.joined (g.D.Domain.passed c.args.domain.now)
    (g.D.Domain.crossed c.args.domain.now) (g.D.Domain.begins c.args.domain.now)
    (g.G.Flow.node_count c.args.flow.now) (g.G.Flow.edge_count c.args.flow.now)
    (g.G.Flow.ends c.args.flow.now) g.met.D.Domain.joins
    (g.met.D.Domain.distributes c.args.domain.now) (g.met.D.Domain.crosses c.args.domain.now) in
    let fits : c.edge-target.result.1 < length c.loop-next.facts = omega arith in
    let read = get_or_default c.loop-next.facts c.edge-target.result.1 c.index-facts-target.result
    None fits in
    let fact = ap (option_map g.D.Domain.view) read in
    let comes = c.absorb.ensures.value
    ∙ ap (λ o. Some (absorbed g.D.Domain.joined o (g.D.Domain.view c.value_across-brought.result))) fact in
    let how : Outcome g.row.D-Fact.Denot g.D.Domain.Value g.D.Domain.view
    (g.D.Domain.height c.args.domain.now) c.loop-next.facts c.loop-next.waiting c.if-absorb.waiting
    c.edge-target.result.1 c.absorb.new.fact
    = elim c.if-absorb.branch [
      | then-absorb w ↦
          outcome_of _ _ g.D.Domain.view (g.D.Domain.height c.args.domain.now) c.loop-next.facts
          c.loop-next.waiting c.if-absorb.waiting c.edge-target.result.1 c.absorb.new.fact
          c.index-facts-target.result c.absorb.result true fits c.absorb.ensures.changed
          w.if-absorb.true (w.waiting-is ∙ w.add.ensures)
      | else-absorb w ↦
          outcome_of _ _ g.D.Domain.view (g.D.Domain.height c.args.domain.now) c.loop-next.facts
          c.loop-next.waiting c.if-absorb.waiting c.edge-target.result.1 c.absorb.new.fact
          c.index-facts-target.result c.absorb.result false fits c.absorb.ensures.changed
          w.if-absorb.false w.waiting-is
    ] in
    let waits_there : c.edge-target.result.1 < length c.loop-next.waiting =
    omega (arith, c.loop-next.invariant.waiting, c.edge-target.ensures.target) in
    let step = step_of g.row.D-Fact.Denot g.D.Domain.Value g.D.Domain.view
    (problem g.D.Domain.joined (g.D.Domain.passed c.args.domain.now) (g.D.Domain.crossed c.args.domain.now)
    (g.D.Domain.begins c.args.domain.now) (g.G.Flow.node_count c.args.flow.now)
    (g.G.Flow.edge_count c.args.flow.now) (g.G.Flow.ends c.args.flow.now))
    c.loop-next.facts c.loop-next.waiting c.edge-target.result.1 (g.D.Domain.view c.value_across-brought.result)
    c.absorb.new.fact fits comes (g.D.Domain.height c.args.domain.now) c.if-absorb.waiting
    waits_there how in
    let ends : g.G.Flow.ends c.args.flow.now c.in-Some.k ≡ (c.args.node, c.edge-target.result.1)
    =
    sym c.edge-target.ensures.ends
    ∙ ap (λ m. (m, c.edge-target.result.1)) (ap (λ q. q.0) c.edge-target.ensures.ends ∙ e.1) in
    record {
      waiting = woken_length _ _ _ _ _ _ _ _ _ how ∙ c.loop-next.invariant.waiting;
      edge = λ k h. let b = before.edge k h in (omega (arith, b, e.0), b.1);
      source = still_source _ _ laws _ _ _ _ _ _ step (g.D.Domain.crossed c.args.domain.now) _ _ c.loop-next.invariant.source;
      under_way =
          stepped _ _ laws _ _ _ _ _ _ step (g.D.Domain.crossed c.args.domain.now) c.args.node
          c.in-Some.k _ c.index-next-in-Some.result.now (sym c.value_across-brought.ensures) e.0 ends before c.loop-next.invariant.source
          (subst (λ o. IsPartialSolution g.D.Domain.Value
          (problem g.D.Domain.joined (g.D.Domain.passed c.args.domain.now) (g.D.Domain.crossed c.args.domain.now)
          (g.D.Domain.begins c.args.domain.now) (g.G.Flow.node_count c.args.flow.now)
          (g.G.Flow.edge_count c.args.flow.now) (g.G.Flow.ends c.args.flow.now))
          (fact_at g.D.Domain.view c.loop-next.facts) (waits c.loop-next.waiting)
          (λ j. (g.G.Flow.ends c.args.flow.now j).0 ≡ c.args.node → past_edge o ≤ j)) c.in-Some.is
          c.loop-next.invariant.under_way);
      left =
          let l = left_falls _ _ g.D.Domain.view (g.D.Domain.height c.args.domain.now)
          (g.D.Domain.tallest c.args.domain.now) (g.met.D.Domain.bounded c.args.domain.now)
          c.loop-next.facts c.loop-next.waiting c.if-absorb.waiting c.edge-target.result.1
          c.absorb.new.fact fits waits_there how in
          omega (arith, c.loop-next.invariant.left);
    }

pub index-next-requires : goal.index-next-requires
index-next-requires g c =
    omega (arith, c.args.outgoing.now.last.ok, c.requires.edges.all_nodes, c.requires.node)

pub absorb-requires : goal.absorb-requires
absorb-requires g c = λ κs within. within

pub add-requires : goal.add-requires
add-requires g c = omega (arith, c.loop-next.invariant.waiting, c.edge-target.ensures.target)

pub returns : goal.returns
returns g c =
    let all = c.loop-next.invariant.under_way in
    let ended = ap past_edge c.in_default.is in
    record {
      waiting = c.loop-next.invariant.waiting;
      under_way = record {
        sound = all.sound;
        begun = all.begun;
        carried = λ k lt any. all.carried k lt (λ here. omega arith);
      };
      left = c.loop-next.invariant.left;
    }
