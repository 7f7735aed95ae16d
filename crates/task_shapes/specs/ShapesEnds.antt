-- The graphs of a set's tasks end, and so do its shapes: with them, or with an error.
use Rattle.std.specs.Prelude.{List, Result}
use Rattle.flat_graph.specs.CodeGraph.{CodeGraph}
use Rattle.task_shapes.specs.Graphs.{GraphsOf}
use Rattle.task_shapes.specs.Inputs.{IsInput, SetWithCode}
use Rattle.task_shapes.specs.Shapes.{SetWithShapes, ShapesOf}
use Rattle.task_shapes.specs.declared.error.ShapeError.{ShapeError}

-- it cannot be refuted that there are the graphs of a set's tasks, or why there are none
abbrev pub GraphsExist : Type 0
GraphsExist =
    (input : SetWithCode) → IsInput input
    → ((r : Result (List CodeGraph) ShapeError) → GraphsOf input r → ⊥) → ⊥

-- and so for the set with its shapes
abbrev pub ShapesExist : Type 0
ShapesExist =
    (input : SetWithCode) → IsInput input
    → ((r : Result SetWithShapes ShapeError) → ShapesOf input r → ⊥) → ⊥
