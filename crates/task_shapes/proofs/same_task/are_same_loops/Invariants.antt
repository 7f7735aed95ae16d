-- The loops so far.
use Rattle.std.proofs.Common.{◌≡◌, take}
use Rattle.task_shapes.proofs.same_task.are_same_loops.Given as goal

abbrev pub invariant-loop-place : goal.invariant-loop-place
invariant-loop-place l = take l.place l.old ≡ take l.place l.new
