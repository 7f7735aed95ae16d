use Rattle.worked_examples.proofs.ThreeTasks.{three_tasks}
use Rattle.worked_examples.proofs.three_tasks.Goals as goal

pub returns : goal.returns
returns c = three_tasks c.checked_code_is_safe.ensures
