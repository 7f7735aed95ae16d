use Rattle.std.proofs.Common.{◌≡◌, length}
use Rattle.task_shapes.specs.Graphs.{RegionsAt}
use Rattle.task_shapes.proofs.Below.{HasValues}
use Rattle.task_shapes.proofs.Nests.{ShownAt, TakenAt}
use Rattle.task_shapes.proofs.renewed.renewed_nests.Given as goal

abbrev pub invariant-loop-place : goal.invariant-loop-place
invariant-loop-place l = record {
  count : length l.nests.items ≡ l.place;
  are : HasValues (RegionsAt l.input l.graphs) l.nests.items;
  shown : HasValues (ShownAt l.graphs) l.nests.items;
  taken : HasValues (TakenAt l.old.nests l.sources) l.nests.items;
}
