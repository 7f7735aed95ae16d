use Rattle.std.proofs.Common.{ℕ, ◌<◌, length, get_or, refl, sym, ◌∙◌, subst, arith}
use Rattle.dataflow.specs.Edges.{IsEdgeList}
use Rattle.dataflow.specs.Problem.{Problem, problem, IsFact, IsLeastSolution, fact_at}
use Rattle.flat_graph.specs.CodeGraph.{graph_of}
use Rattle.must_cache.specs.EdgeLists.{AreGraphEdges}
use Rattle.must_cache.proofs.facts.graph_facts.Goals as goal

pub unreachable-requires : goal.unreachable-requires
unreachable-requires g c =
    c.in_default.ensures.none refl
    (subst (λ n. IsEdgeList n c.deref.result.now) (sym c.len.ensures)
    (subst (IsEdgeList (graph_of c.args.graph.now).size) (sym c.deref.ensures.value)
    c.in_ok-edges.ensures.list))

pub solve-requires : goal.solve-requires
solve-requires g c = λ n lt. c.requires n (omega (arith, lt, c.in-Some.ensures.graph.0, c.len.ensures))

pub returns-clause-count : goal.returns-clause-count
returns-clause-count g c =
    c.in_ok-facts.ensures.nodes ∙ c.in-Some.ensures.graph.0 ∙ c.len.ensures

pub returns-clause-least : goal.returns-clause-least
returns-clause-least g c =
    let edges = c.in-Some.flow.edges.now in
    let p : ℕ → Problem g.D.Domain.Value = λ k.
    problem g.D.Domain.joined (g.D.Domain.passed c.args.domain.now)
    (g.D.Domain.crossed c.args.domain.now)
    (g.D.Domain.begins c.args.domain.now) k (length edges) (λ j. get_or edges j (0, 0)) in
    let size = c.in-Some.ensures.graph.0 ∙ c.len.ensures in
    record {
      edges = edges;
      are =
          subst (AreGraphEdges (graph_of c.args.graph.now))
          (sym (c.in-Some.ensures.graph.1 ∙ c.deref.ensures.value)) c.in_ok-edges.ensures;
      joins =
          subst (λ k. (n : ℕ) → n < k
          → IsFact (p k) n (fact_at g.D.Domain.view c.in_ok-facts.facts.items n)) size
          c.in_ok-facts.ensures.facts;
      least =
          subst (λ k. IsLeastSolution g.D.Domain.Value (p k)
          (fact_at g.D.Domain.view c.in_ok-facts.facts.items)) size c.in_ok-facts.ensures.least;
    }
