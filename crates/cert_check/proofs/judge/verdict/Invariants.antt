-- All clauses hold for the tasks so far.
use Rattle.std.proofs.Common.{ℕ, ◌<◌}
use Rattle.cert_check.specs.declared.outcome.Clause.{Clause}
use Rattle.cert_check.specs.Verdict.{ClauseHolds}
use Rattle.loop_regions.specs.TaskGraphs.{task_graph_at}
use Rattle.cert_check.proofs.judge.verdict.Given as goal

abbrev pub invariant-loop-i : goal.invariant-loop-i
invariant-loop-i l =
    (j : ℕ) (k : Clause) → j < l.i
    → ClauseHolds l.set (task_graph_at l.graphs l.nests) l.certificate j k
