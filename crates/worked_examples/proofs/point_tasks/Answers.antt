use Rattle.worked_examples.proofs.PointTasks.{point_tasks}
use Rattle.worked_examples.proofs.point_tasks.Goals as goal

pub returns : goal.returns
returns c = point_tasks c.refined_law.ensures.safe
