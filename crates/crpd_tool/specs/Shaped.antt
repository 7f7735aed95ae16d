-- The graphs of a set's tasks with the regions of their loops, task by task.
use Rattle.std.specs.Prelude.{ℕ}
use Rattle.loop_regions.specs.TaskGraphs.{task_graph_at}
use Rattle.loop_regions.specs.TaskGraph.{TaskGraph}
use Rattle.task_shapes.specs.Shapes.{SetWithShapes}

-- the graph of each task with its regions, as the checker's clauses use it
abbrev pub graphs_of : SetWithShapes → ℕ → TaskGraph
graphs_of shaped = task_graph_at shaped.graphs shaped.nests
