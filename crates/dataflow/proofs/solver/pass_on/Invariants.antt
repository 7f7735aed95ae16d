-- The edges from the next one on, in the chain's order, are still to be followed.
use Rattle.std.proofs.Common.{◌≡◌, ℕ, ◌<◌, ◌≤◌, Some, length}
use Rattle.dataflow.specs.Problem.{problem, fact_at}
use Rattle.dataflow.specs.Inner.Search.{IsPartialSolution, IsPassedOn, waits, work_left, past_edge}
use Rattle.dataflow.proofs.solver.pass_on.Given as goal

abbrev pub invariant-loop-next : goal.invariant-loop-next
invariant-loop-next g l = record {
  waiting : length l.waiting ≡ g.G.Flow.node_count l.flow;
  edge : (k : ℕ) → l.next ≡ Some k
      → (k < g.G.Flow.edge_count l.flow) × ((g.G.Flow.ends l.flow k).0 ≡ l.node);
  source : IsPassedOn g.D.Domain.Value
      (problem g.D.Domain.joined (g.D.Domain.passed l.domain) (g.D.Domain.crossed l.domain) (g.D.Domain.begins l.domain)
      (g.G.Flow.node_count l.flow) (g.G.Flow.edge_count l.flow) (g.G.Flow.ends l.flow))
      (g.D.Domain.crossed l.domain) (fact_at g.D.Domain.view l.facts) (waits l.waiting) l.node
      (g.D.Domain.view l.value);
  under_way : IsPartialSolution g.D.Domain.Value
      (problem g.D.Domain.joined (g.D.Domain.passed l.domain) (g.D.Domain.crossed l.domain) (g.D.Domain.begins l.domain)
      (g.G.Flow.node_count l.flow) (g.G.Flow.edge_count l.flow) (g.G.Flow.ends l.flow))
      (fact_at g.D.Domain.view l.facts) (waits l.waiting)
      (λ k. (g.G.Flow.ends l.flow k).0 ≡ l.node → past_edge l.next ≤ k);
  left : work_left g.D.Domain.view (g.D.Domain.height l.domain) (g.D.Domain.tallest l.domain)
      l.facts l.waiting
      ≤ work_left g.D.Domain.view (g.D.Domain.height l.domain) (g.D.Domain.tallest l.domain)
      l.initial.facts l.initial.waiting;
}

abbrev pub decreases-loop-next : goal.decreases-loop-next
decreases-loop-next g l = past_edge l.next
