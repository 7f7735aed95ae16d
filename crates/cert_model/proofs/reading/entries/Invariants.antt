use Rattle.std.proofs.Common.{◌≡◌, ◌*◌, ◌≤◌, take, sum_by}
use Rattle.cert_model.specs.Reading.{task_entries}
use Rattle.cert_model.proofs.reading.entries.Given as goal

abbrev pub invariant-loop-task : goal.invariant-loop-task
invariant-loop-task l = record {
  is : l.found ≡ sum_by task_entries (take l.task-index l.tasks);
  small : l.found ≤ 16777216 * l.task-index;
}
