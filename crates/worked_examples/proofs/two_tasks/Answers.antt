use Rattle.worked_examples.proofs.TwoTasks.{two_tasks}
use Rattle.worked_examples.proofs.two_tasks.Goals as goal

pub returns : goal.returns
returns c = two_tasks c.checked_code_is_safe.ensures
