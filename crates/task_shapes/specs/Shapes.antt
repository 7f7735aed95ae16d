-- A set with the graphs of all tasks and the regions of their loops.
use Rattle.std.specs.Prelude.{List, Result, Ok}
use Rattle.loop_regions.specs.TaskGraphs.{AreTaskGraphs}
use Rattle.flat_graph.specs.CodeGraph.{CodeGraph}
use Rattle.loop_regions.specs.CodeNest.{CodeNest}
use Rattle.task_shapes.specs.declared.error.ShapeError.{ShapeError}
use Rattle.task_shapes.specs.Inputs.{IsInput, SetWithCode}
use Rattle.task_shapes.specs.Graphs.{GraphsOf, RegionsOf}
use Rattle.task_shapes.specs.Steps.{Exactly, Then}

-- a set with its code, and the graph and the regions of each task, by priority
pub record SetWithShapes : Type 0 where
  pub input : SetWithCode
  pub graphs : List CodeGraph
  pub nests : List CodeNest

-- the graphs are those of the set's code, and the regions those of its stated loops in them; so
-- they are graphs as the checker requires them
pub record IsShapedSet (shaped : SetWithShapes) : Type 0 where
  pub input : IsInput shaped.input
  pub graphs : GraphsOf shaped.input (Ok shaped.graphs)
  pub regions : RegionsOf shaped.input shaped.graphs (Ok shaped.nests)
  pub shown : AreTaskGraphs shaped.input.set shaped.graphs shaped.nests

-- the graphs of all tasks, and then the regions of all tasks
abbrev pub ShapesOf : SetWithCode → Result SetWithShapes ShapeError → Type 0
ShapesOf input =
    Then (GraphsOf input) (λ graphs.
    Then (RegionsOf input graphs) (λ nests.
    Exactly (Ok (record { input = input; graphs = graphs; nests = nests }))))
