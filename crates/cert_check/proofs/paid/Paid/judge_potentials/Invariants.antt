-- The nodes so far satisfy their inequalities.
use Rattle.std.proofs.Common.{ℕ, ◌<◌}
use Rattle.flat_graph.specs.CodeGraph.{graph_of}
use Rattle.loop_regions.specs.CodeNest.{nest_of}
use Rattle.cert_check.specs.ListedPotentials.{potentials_of}
use Rattle.cert_check.specs.PotentialClauses.{PotentialsMeet}
use Rattle.cert_check.specs.Inner.JudgedNodes.{counted}
use Rattle.loop_regions.specs.Potentials.{costs_of}
use Rattle.cert_check.proofs.paid.Paid.judge_potentials.Given as goal

abbrev pub invariant-loop-node : goal.invariant-loop-node
invariant-loop-node l =
    (u : ℕ) → u < l.node →
    PotentialsMeet (graph_of l.self.graph.now) (nest_of l.self.nest.now)
    (costs_of l.self.platform.now l.self.graph.now (counted l.self.hits.now))
    (potentials_of l.self.part.now) u
