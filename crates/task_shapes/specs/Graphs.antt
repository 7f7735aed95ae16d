-- The graph of each task and the regions of its loops, or why there are none.
use Rattle.std.specs.Prelude.{◌≡◌, ◌≢◌, ℕ, ◌≤◌, List, length, slice_get, Result, Some, Ok, Err}
use Rattle.crpd_base.specs.Limits.{most_nodes}
use Rattle.crpd_base.specs.declared.data.TaskPlan.{TaskPlan}
use Rattle.rv_decode.specs.Flow.{flows}
use Rattle.code_map.specs.Words.{word_at}
use Rattle.flat_graph.specs.CodeGraph.{CodeGraph, IsCodeGraph, graph_of, places_of}
use Rattle.flat_graph.specs.GraphErrors.{IsGraphError}
use Rattle.flat_graph.specs.declared.error.GraphError.{GraphError}
use Rattle.flat_graph.specs.declared.error.GraphError.TheVariants as graph_error
use Rattle.loop_regions.specs.CodeNest.{CodeNest, nest_of}
use Rattle.loop_regions.specs.LoopErrors.{IsLoopError}
use Rattle.loop_regions.specs.Stated.{HasNoLoopRefusals, IsRegions, IsSameHead}
use Rattle.loop_regions.specs.declared.error.LoopError.{LoopError}
use Rattle.loop_regions.specs.declared.error.LoopError.TheVariants as loop_error
use Rattle.task_shapes.specs.declared.error.ShapeError.{ShapeError}
use Rattle.task_shapes.specs.declared.error.ShapeError.TheVariants.{Graph, Loops}
use Rattle.task_shapes.specs.Inputs.{SetWithCode, name_at}
use Rattle.task_shapes.specs.Steps.{EachBelow}

-- the flat graph of a plan, of at most 16,384 nodes, or why there is none
abbrev pub IsGraphOrNot : SetWithCode → ℕ → TaskPlan → Result CodeGraph ShapeError → Type 0
IsGraphOrNot input k plan (Ok graph) =
    IsCodeGraph (word_at input.code.images) plan.entry graph × (length graph.nodes ≤ most_nodes)
IsGraphOrNot input k plan (Err r) =
    (e : GraphError) × (e ≢ graph_error.Memory)
    × IsGraphError (flows (word_at input.code.images)) plan.entry e
    × (r ≡ Graph (name_at input k) e)

-- the regions of a plan's loops in its graph, or why there are none
abbrev pub AreRegionsOrNot : SetWithCode → ℕ → TaskPlan → CodeGraph
    → Result CodeNest ShapeError → Type 0
AreRegionsOrNot input k plan g (Ok nest) =
    ((a : ℕ) → IsSameHead plan.loops a → ⊥)
    × IsRegions (graph_of g) (places_of g) plan.loops (nest_of nest)
    × HasNoLoopRefusals (graph_of g) (nest_of nest)
AreRegionsOrNot input k plan g (Err r) =
    (e : LoopError) × (e ≢ loop_error.Memory) × IsLoopError (graph_of g) (places_of g) plan.loops e
    × (r ≡ Loops (name_at input k) e)

-- the graph of the task at a place, or why there is none
abbrev pub GraphAt : SetWithCode → ℕ → Result CodeGraph ShapeError → Type 0
GraphAt input k r =
    (plan : TaskPlan) × (slice_get input.code.plans k ≡ Some plan) × IsGraphOrNot input k plan r

-- the regions of the task at a place in its graph, or why there are none
abbrev pub RegionsAt : SetWithCode → List CodeGraph → ℕ → Result CodeNest ShapeError → Type 0
RegionsAt input graphs k r =
    (plan : TaskPlan) × (g : CodeGraph) × (slice_get input.code.plans k ≡ Some plan)
    × (slice_get graphs k ≡ Some g) × AreRegionsOrNot input k plan g r

-- the graphs of all tasks, by priority
abbrev pub GraphsOf : SetWithCode → Result (List CodeGraph) ShapeError → Type 0
GraphsOf input = EachBelow (GraphAt input) (length input.set.tasks)

-- the regions of all tasks in these graphs, by priority
abbrev pub RegionsOf : SetWithCode → List CodeGraph → Result (List CodeNest) ShapeError → Type 0
RegionsOf input graphs = EachBelow (RegionsAt input graphs) (length input.set.tasks)
