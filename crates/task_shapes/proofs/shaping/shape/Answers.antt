use Rattle.std.proofs.Common.{inr, refl}
use Rattle.task_shapes.proofs.shaping.shape.Goals as goal

pub returns-in-Err : goal.returns-in-Err
returns-in-Err c = λ not_memory. inr (c.in-Err.error, c.in-Err.ensures not_memory, refl)
