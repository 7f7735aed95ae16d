use Rattle.std.proofs.Common.{◌≡◌, ℕ, ◌<◌, ◌≢◌, ◌⊎◌, Some, None, length, get_or, set, false, ap, sym, refl}
use Rattle.std.proofs.Common.{◌∙◌, subst, arith, option_map, get_or-set_other, Option, List, Bool}
use Rattle.std.proofs.Common.{IsTrue, ◌≤◌}
use Rattle.std.proofs.lemmas.List.{get_or_default, length-set}
use Rattle.dataflow.specs.Problem.{Problem, problem, fact_at}
use Rattle.dataflow.specs.Inner.Search.{IsPartialSolution, IsPassedOn, IsCarried, waits, work_left}
use Rattle.dataflow.proofs.Steps.{taken, taken_empty, its_source}
use Rattle.dataflow.proofs.Left.{left_taken}
use Rattle.dataflow.proofs.Solution.{laws_of}
use Rattle.dataflow.proofs.solver.settle.Goals as goal

-- those that are not taken
others_of : (waiting new : List Bool) (m : ℕ) → new ≡ set waiting m false → (n : ℕ) → n ≢ m
    → waits new n ≡ waits waiting n
others_of waiting new m e n ne = ap (λ w. waits w n) e ∙ get_or-set_other waiting m n false false ne

-- no node waits
none_waits : (V : Type 0) (p : Problem V) (facts : ℕ → Option V) (waiting : ℕ → Bool)
    → ((n : ℕ) → waiting n ≡ false) → IsPartialSolution V p facts waiting (λ k. Unit {0})
    → IsPartialSolution V p facts (λ n. false) (λ k. Unit {0})
none_waits V p facts waiting none way = record {
  sound = way.sound;
  begun = way.begun;
  carried = λ j below d.
      subst (λ b. IsTrue b ⊎ IsCarried p facts j) (none (p.ends j).0) (way.carried j below d);
}

pub pass_on-requires-clause-source : goal.pass_on-requires-clause-source
pass_on-requires-clause-source g c =
    let p = problem g.D.Domain.joined (g.D.Domain.passed c.args.domain.now) (g.D.Domain.crossed c.args.domain.now)
    (g.D.Domain.begins c.args.domain.now) (g.G.Flow.node_count c.args.flow.now)
    (g.G.Flow.edge_count c.args.flow.now) (g.G.Flow.ends c.args.flow.now) in
    let in_facts : c.in-Some.node < length c.loop-node.facts =
    omega (
      arith,
      c.in-Some.ensures.0,
      c.loop-node.invariant.waiting,
      c.loop-node.auto.facts,
      c.requires.facts,
    ) in
    let here : get_or c.loop-node.facts c.in-Some.node None ≡ Some c.in-Some-facts.before =
    get_or_default c.loop-node.facts c.in-Some.node None c.index-facts-node.result in_facts
    ∙ c.in-Some-facts.is in
    subst (λ u. IsPassedOn g.D.Domain.Value p (g.D.Domain.crossed c.args.domain.now)
    (fact_at g.D.Domain.view c.loop-node.facts)
    (waits c.take.new.self) c.in-Some.node u) (sym c.fact_after-value.ensures)
    (its_source _ _ (laws_of g.D.Domain.Value g.D.Domain.joined (g.D.Domain.passed c.args.domain.now)
    (g.D.Domain.crossed c.args.domain.now) (g.D.Domain.begins c.args.domain.now)
    (g.G.Flow.node_count c.args.flow.now) (g.G.Flow.edge_count c.args.flow.now)
    (g.G.Flow.ends c.args.flow.now) g.met.D.Domain.joins
    (g.met.D.Domain.distributes c.args.domain.now) (g.met.D.Domain.crosses c.args.domain.now)) (g.D.Domain.crossed c.args.domain.now) _ _ _ c.in-Some.node _ _ (λ n. refl)
    (ap (option_map g.D.Domain.view) here)
    c.loop-node.invariant.under_way)

pub pass_on-requires-clause-under_way : goal.pass_on-requires-clause-under_way
pass_on-requires-clause-under_way g c =
    taken _ _
    (laws_of g.D.Domain.Value g.D.Domain.joined (g.D.Domain.passed c.args.domain.now)
    (g.D.Domain.crossed c.args.domain.now) (g.D.Domain.begins c.args.domain.now)
    (g.G.Flow.node_count c.args.flow.now) (g.G.Flow.edge_count c.args.flow.now)
    (g.G.Flow.ends c.args.flow.now) g.met.D.Domain.joins
    (g.met.D.Domain.distributes c.args.domain.now) (g.met.D.Domain.crosses c.args.domain.now)) _ _ _ c.in-Some.node
    (others_of c.loop-node.waiting c.take.new.self c.in-Some.node c.in-Some.ensures.2)
    c.loop-node.invariant.under_way

pub loop-node-preserved-in-Some-facts : goal.loop-node-preserved-in-Some-facts
loop-node-preserved-in-Some-facts g c = record {
  waiting = c.pass_on.ensures.waiting;
  under_way = c.pass_on.ensures.under_way;
}

pub loop-node-preserved : goal.loop-node-preserved
loop-node-preserved g c =
    let in_facts : c.in-Some.node < length c.loop-node.facts =
    omega (
      arith,
      c.in-Some.ensures.0,
      c.loop-node.invariant.waiting,
      c.loop-node.auto.facts,
      c.requires.facts,
    ) in
    let here : get_or c.loop-node.facts c.in-Some.node None ≡ None =
    get_or_default c.loop-node.facts c.in-Some.node None c.index-facts-node.result in_facts
    ∙ c.in_default-facts.is in
    record {
      waiting =
          ap length c.in-Some.ensures.2 ∙ length-set c.loop-node.waiting c.in-Some.node false
          ∙ c.loop-node.invariant.waiting;
      under_way =
          taken_empty _ _ (laws_of g.D.Domain.Value g.D.Domain.joined (g.D.Domain.passed c.args.domain.now)
          (g.D.Domain.crossed c.args.domain.now) (g.D.Domain.begins c.args.domain.now)
          (g.G.Flow.node_count c.args.flow.now) (g.G.Flow.edge_count c.args.flow.now)
          (g.G.Flow.ends c.args.flow.now) g.met.D.Domain.joins
          (g.met.D.Domain.distributes c.args.domain.now) (g.met.D.Domain.crosses c.args.domain.now)) _ _ _ c.in-Some.node
          (others_of c.loop-node.waiting c.take.new.self c.in-Some.node c.in-Some.ensures.2)
          (ap (option_map g.D.Domain.view) here) c.loop-node.invariant.under_way;
    }

pub loop-node-init : goal.loop-node-init
loop-node-init g c = record {
  waiting = c.requires.waiting;
  under_way = c.requires.under_way;
}

pub pass_on-requires-clause-edges : goal.pass_on-requires-clause-edges
pass_on-requires-clause-edges g c = c.requires.edges

pub pass_on-requires-clause-waiting : goal.pass_on-requires-clause-waiting
pass_on-requires-clause-waiting g c =
    ap length c.in-Some.ensures.2 ∙ length-set c.loop-node.waiting c.in-Some.node false
    ∙ c.loop-node.invariant.waiting

pub loop-node-smaller : goal.loop-node-smaller
loop-node-smaller g c =
    let d = c.args.domain.now in
    subst (λ w. work_left g.D.Domain.view (g.D.Domain.height d) (g.D.Domain.tallest d)
    c.loop-node.facts w
    < work_left g.D.Domain.view (g.D.Domain.height d) (g.D.Domain.tallest d)
    c.loop-node.facts c.loop-node.waiting) (sym c.in-Some.ensures.2)
    (left_taken _ _ g.D.Domain.view (g.D.Domain.height d) (g.D.Domain.tallest d)
    (g.met.D.Domain.bounded d) c.loop-node.facts c.loop-node.waiting c.in-Some.node
    c.in-Some.ensures.0 c.in-Some.ensures.1)

pub loop-node-smaller-in-Some-facts : goal.loop-node-smaller-in-Some-facts
loop-node-smaller-in-Some-facts g c =
    let d = c.args.domain.now in
    let falls = left_taken _ _ g.D.Domain.view (g.D.Domain.height d) (g.D.Domain.tallest d)
    (g.met.D.Domain.bounded d) c.loop-node.facts c.loop-node.waiting c.in-Some.node
    c.in-Some.ensures.0 c.in-Some.ensures.1 in
    let left = subst (λ w. work_left g.D.Domain.view (g.D.Domain.height d) (g.D.Domain.tallest d)
    c.pass_on.new.facts c.pass_on.new.waiting
    ≤ work_left g.D.Domain.view (g.D.Domain.height d) (g.D.Domain.tallest d)
    c.loop-node.facts w) c.in-Some.ensures.2 c.pass_on.ensures.left in
    omega (arith, falls, left)

pub returns : goal.returns
returns g c = none_waits _ _ _ _ c.in_default.ensures c.loop-node.invariant.under_way
