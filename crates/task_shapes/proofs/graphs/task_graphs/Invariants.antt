use Rattle.std.proofs.Common.{◌≡◌, length}
use Rattle.task_shapes.specs.Graphs.{GraphAt}
use Rattle.task_shapes.proofs.Below.{HasValues}
use Rattle.task_shapes.proofs.graphs.task_graphs.Given as goal

abbrev pub invariant-loop-place : goal.invariant-loop-place
invariant-loop-place l = record {
  count : length l.graphs.items ≡ l.place;
  are : HasValues (GraphAt l.input) l.graphs.items;
}
