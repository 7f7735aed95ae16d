-- The facts are a partial solution, and the work left decreases.
use Rattle.std.proofs.Common.{◌≡◌, length}
use Rattle.dataflow.specs.Problem.{problem, fact_at}
use Rattle.dataflow.specs.Inner.Search.{IsPartialSolution, waits, work_left}
use Rattle.dataflow.proofs.solver.settle.Given as goal

abbrev pub invariant-loop-node : goal.invariant-loop-node
invariant-loop-node g l = record {
  waiting : length l.waiting ≡ g.G.Flow.node_count l.flow;
  under_way : IsPartialSolution g.D.Domain.Value
      (problem g.D.Domain.joined (g.D.Domain.passed l.domain) (g.D.Domain.crossed l.domain) (g.D.Domain.begins l.domain)
      (g.G.Flow.node_count l.flow) (g.G.Flow.edge_count l.flow) (g.G.Flow.ends l.flow))
      (fact_at g.D.Domain.view l.facts) (waits l.waiting) (λ k. Unit {0});
}

abbrev pub decreases-loop-node : goal.decreases-loop-node
decreases-loop-node g l =
    work_left g.D.Domain.view (g.D.Domain.height l.domain) (g.D.Domain.tallest l.domain)
    l.facts l.waiting
