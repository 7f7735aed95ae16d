use Rattle.std.proofs.Common.{inr, refl}
use Rattle.task_shapes.proofs.renewed.renew.Goals as goal

pub returns-in-Err-clause-exact : goal.returns-in-Err-clause-exact
returns-in-Err-clause-exact c = λ not_memory. inr (c.in-Err.error, c.in-Err.ensures not_memory, refl)
