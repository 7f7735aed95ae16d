use Rattle.worked_examples.proofs.LateTasks.{late_tasks}
use Rattle.worked_examples.proofs.late_tasks.Goals as goal

pub returns : goal.returns
returns c = late_tasks c.checked_code_is_safe.ensures
