use Rattle.task_shapes.proofs.SomeShapes.{graphs_exist, shapes_exist}
use Rattle.task_shapes.proofs.shapes_exist.Goals as goal

pub returns-clause-graphs : goal.returns-clause-graphs
returns-clause-graphs c = graphs_exist

pub returns-clause-shapes : goal.returns-clause-shapes
returns-clause-shapes c = shapes_exist
