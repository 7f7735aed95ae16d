use Rattle.std.proofs.Common.{◌≡◌, ℕ, ◌<◌, ◌≤◌, ◌++◌, None, length, take, drop, false, refl, sym, ap}
use Rattle.std.proofs.Common.{◌∙◌, subst, arith, option_map}
use Rattle.std.proofs.Math.Seq.{take-append_seam}
use Rattle.std.proofs.lemmas.List.{get_or_past}
use Rattle.dataflow.specs.Problem.{problem, fact_at, IsFact, IsLeastSolution}
use Rattle.dataflow.specs.Inner.Search.{IsPartialSolution, waits}
use Rattle.dataflow.proofs.Solution.{HasLaws, laws_of, is_fact, is_least}
use Rattle.dataflow.proofs.Steps.{at_start, solved}
use Rattle.dataflow.proofs.solver.solve.Goals as goal

pub visit_order-requires : goal.visit_order-requires
visit_order-requires g c = c.in_ok-outgoing.ensures

pub settle-requires : goal.settle-requires
settle-requires g c =
    let p = problem g.D.Domain.joined (g.D.Domain.passed c.args.domain.now) (g.D.Domain.crossed c.args.domain.now)
    (g.D.Domain.begins c.args.domain.now) (g.G.Flow.node_count c.args.flow.now)
    (g.G.Flow.edge_count c.args.flow.now) (g.G.Flow.ends c.args.flow.now) in
    let laws : HasLaws g.D.Domain.Value p = laws_of g.D.Domain.Value g.D.Domain.joined (g.D.Domain.passed c.args.domain.now)
    (g.D.Domain.crossed c.args.domain.now) (g.D.Domain.begins c.args.domain.now)
    (g.G.Flow.node_count c.args.flow.now) (g.G.Flow.edge_count c.args.flow.now)
    (g.G.Flow.ends c.args.flow.now) g.met.D.Domain.joins
    (g.met.D.Domain.distributes c.args.domain.now) (g.met.D.Domain.crosses c.args.domain.now) in
    record {
      own = c.requires;
      edges = c.in_ok-outgoing.ensures;
      facts = c.deref_mut.ensures.len ∙ c.in_ok-facts.ensures.nodes;
      waiting = c.in_ok-waiting.ensures.nodes ∙ c.nodes.ensures;
      under_way =
          subst (λ l. IsPartialSolution g.D.Domain.Value p (fact_at g.D.Domain.view l)
          (waits c.in_ok-waiting.waiting) (λ k. Unit {0})) (sym c.deref_mut.ensures.value)
          (at_start _ _ laws _ _ c.in_ok-facts.ensures.begins
          (λ n ge. ap (option_map g.D.Domain.view)
          (let q = c.in_ok-facts.facts.ok in
          let past : length c.in_ok-facts.facts.items ≤ n =
          omega (arith, c.in_ok-facts.ensures.nodes) in
          get_or_past c.in_ok-facts.facts.items n None past))
          (λ n lt. c.in_ok-waiting.ensures.all n (omega (arith, c.nodes.ensures))));
    }

pub returns : goal.returns
returns g c =
    let p = problem g.D.Domain.joined (g.D.Domain.passed c.args.domain.now) (g.D.Domain.crossed c.args.domain.now)
    (g.D.Domain.begins c.args.domain.now) (g.G.Flow.node_count c.args.flow.now)
    (g.G.Flow.edge_count c.args.flow.now) (g.G.Flow.ends c.args.flow.now) in
    let laws : HasLaws g.D.Domain.Value p = laws_of g.D.Domain.Value g.D.Domain.joined (g.D.Domain.passed c.args.domain.now)
    (g.D.Domain.crossed c.args.domain.now) (g.D.Domain.begins c.args.domain.now)
    (g.G.Flow.node_count c.args.flow.now) (g.G.Flow.edge_count c.args.flow.now)
    (g.G.Flow.ends c.args.flow.now) g.met.D.Domain.joins
    (g.met.D.Domain.distributes c.args.domain.now) (g.met.D.Domain.crosses c.args.domain.now) in
    let facts = c.settle.new.facts in
    let rest = drop (length facts) c.in_ok-facts.facts.items in
    let whole : c.in_ok-facts.facts.len ≡ length facts =
    omega (arith, c.settle.auto.facts, c.deref_mut.ensures.len) in
    let same : take c.in_ok-facts.facts.len (facts ++ rest) ≡ facts =
    ap (λ k. take k (facts ++ rest)) whole ∙ take-append_seam facts rest in
    let done = solved _ _ laws _ (λ n. false) (λ n. refl) c.settle.ensures in
    record {
      nodes = c.in_ok-facts.ensures.nodes;
      facts =
          subst (λ l. (n : ℕ) → n < g.G.Flow.node_count c.args.flow.now
          → IsFact p n (fact_at g.D.Domain.view l n)) (sym same)
          (λ n lt. is_fact _ _ laws _ done n (c.settle.ensures.sound n));
      least =
          subst (λ l. IsLeastSolution g.D.Domain.Value p (fact_at g.D.Domain.view l)) (sym same)
          (record {
            solves = done;
            least = λ other s n v e. is_least _ _ laws _ other c.settle.ensures.sound s n v e;
          });
    }
