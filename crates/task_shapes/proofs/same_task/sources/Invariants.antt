-- The tasks so far.
use Rattle.task_shapes.specs.Inner.SameTask.{AreSources}
use Rattle.task_shapes.proofs.same_task.sources.Given as goal

abbrev pub invariant-loop-place : goal.invariant-loop-place
invariant-loop-place l = AreSources l.old l.input l.place l.sources.items
