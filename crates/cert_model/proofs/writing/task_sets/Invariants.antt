use Rattle.std.proofs.Common.{ℕ, ◌<◌, get_or}
use Rattle.crpd_base.specs.declared.data.TaskPart.{TaskPart}
use Rattle.cert_model.specs.Inner.Ranges.{HasSetWords}
use Rattle.cert_model.proofs.writing.task_sets.Given as goal

abbrev pub invariant-loop-task : goal.invariant-loop-task
invariant-loop-task l = (k : ℕ) (d : TaskPart) → k < l.task-index → HasSetWords (get_or l.tasks k d)
