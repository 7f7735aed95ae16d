-- The facts so far are those at which paths begin.
use Rattle.std.proofs.Common.{◌≡◌, ℕ, ◌<◌, vec_len}
use Rattle.dataflow.specs.Problem.{fact_at}
use Rattle.dataflow.proofs.solver.first_facts.Given as goal

abbrev pub invariant-loop-node : goal.invariant-loop-node
invariant-loop-node g l = record {
  nodes : vec_len l.facts ≡ l.node;
  begins : (n : ℕ) → n < l.node
      → fact_at g.D.Domain.view l.facts.items n ≡ g.D.Domain.begins l.domain n;
}
