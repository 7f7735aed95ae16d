use Rattle.std.proofs.Common.{ℕ, ◌<◌, length}
use Rattle.preempt_machine.specs.Schedule.{script_line}
use Rattle.layer_tests.proofs.scripts.are_named.Given as goal

abbrev pub invariant-loop-job : goal.invariant-loop-job
invariant-loop-job l =
    (u : ℕ) → u < l.job-index → (script_line l.script.jobs u).task.0 < length l.set.tasks
