-- Which tasks of a set have the graph and the stated loops of a task of an old set.
use Rattle.std.specs.Prelude.{◌≡◌, ℕ, ◌<◌, length, slice_get, Some}
use Rattle.crpd_base.specs.declared.data.TaskPlan.{TaskPlan}
use Rattle.crpd_base.specs.Tasks.{place_of_name}
use Rattle.code_map.specs.Words.{word_at}
use Rattle.flat_graph.specs.CodeGraph.{IsCodeGraph, graph_at}
use Rattle.loop_regions.specs.TaskGraphs.{nest_at}
use Rattle.task_shapes.specs.Inputs.{SetWithCode, name_at}
use Rattle.task_shapes.specs.Shapes.{SetWithShapes}

-- the graph of the old task j is that of the new task k, and both have the same loops
pub record IsSameTask (old : SetWithShapes) (j : ℕ) (input : SetWithCode) (k : ℕ) : Type 0 where
  pub old_plan : TaskPlan
  pub plan : TaskPlan
  pub old_planned : slice_get old.input.code.plans j ≡ Some old_plan
  pub planned : slice_get input.code.plans k ≡ Some plan
  pub graph : IsCodeGraph (word_at input.code.images) plan.entry (graph_at old.graphs j)
  pub loops : old_plan.loops ≡ plan.loops

-- a new task that is the same as the old task of its name has that task's graph and regions
abbrev pub AreTaken : SetWithShapes → SetWithShapes → Type 0
AreTaken old new =
    (j k : ℕ) → k < length new.input.set.tasks
    → place_of_name old.input.set.tasks (name_at new.input k) ≡ Some j
    → IsSameTask old j new.input k
    → (graph_at new.graphs k ≡ graph_at old.graphs j)
    × (nest_at new.nests k ≡ nest_at old.nests j)
