-- Stored graphs and regions as task graphs.
use Rattle.std.specs.Prelude.{◌≡◌, ℕ, ◌<◌, List, [], length, slice_index_or}
use Rattle.crpd_base.specs.declared.data.TaskSet.{TaskSet}
use Rattle.flat_graph.specs.CodeGraph.{CodeGraph, graph_of, places_of, ins_of, graph_at}
use Rattle.loop_regions.specs.CodeNest.{CodeNest, nest_of, IsNestOf}
use Rattle.loop_regions.specs.TaskGraph.{TaskGraph}

-- a stored graph and its regions as one
abbrev pub task_graph : CodeGraph → CodeNest → TaskGraph
task_graph g n = record {
  graph = graph_of g;
  places = places_of g;
  ins = ins_of g;
  nest = nest_of n;
}

-- no regions
abbrev pub no_nest : CodeNest
no_nest = record { heads = []; bounds = []; holders = [] }

-- the regions of the task at a place
abbrev pub nest_at : List CodeNest → ℕ → CodeNest
nest_at nests i = slice_index_or nests i no_nest

-- the task graph of each task
abbrev pub task_graph_at : List CodeGraph → List CodeNest → ℕ → TaskGraph
task_graph_at graphs nests i = task_graph (graph_at graphs i) (nest_at nests i)

-- there is one graph for each task, and one nest, which is that graph's
pub record AreTaskGraphs (set : TaskSet) (graphs : List CodeGraph)
    (nests : List CodeNest) : Type 0 where
  pub all_graphs : length graphs ≡ length set.tasks
  pub all_nests : length nests ≡ length set.tasks
  pub each : (i : ℕ) → i < length set.tasks → IsNestOf (graph_at graphs i) (nest_at nests i)
