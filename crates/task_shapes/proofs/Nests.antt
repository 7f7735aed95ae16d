-- Each nest is that of the graph at its place.
use Rattle.std.proofs.Common.{◌≡◌, ℕ, List, length, get_or, Some, Ok, Err, sym, subst, arith}
use Rattle.std.specs.Prelude.{Result, Option, None, slice_get, slice_index_or}
use Rattle.std.proofs.lemmas.Option.{get_or_from_slice_get, slice_get-get_or}
use Rattle.crpd_base.specs.declared.data.TaskSet.{TaskSet}
use Rattle.flat_graph.specs.CodeGraph.{CodeGraph, graph_at}
use Rattle.loop_regions.specs.CodeNest.{CodeNest, IsNestOf}
use Rattle.loop_regions.specs.TaskGraphs.{AreTaskGraphs, no_nest}
use Rattle.task_shapes.specs.declared.error.ShapeError.{ShapeError}
use Rattle.task_shapes.specs.Inner.SameTask.{IsTaken}
use Rattle.task_shapes.proofs.Below.{HasValues}

-- a nest is that of the graph at a place
abbrev pub ShownAt : List CodeGraph → ℕ → Result CodeNest ShapeError → Type 0
ShownAt graphs k (Ok nest) = IsNestOf (graph_at graphs k) nest
ShownAt graphs k (Err error) = Unit {0}

-- a nest is that of the source of the task at a place
abbrev pub TakenAt : List CodeNest → List (Option ℕ) → ℕ → Result CodeNest ShapeError → Type 0
TakenAt nests sources k (Ok nest) = IsTaken nests (slice_index_or sources k None) nest
TakenAt nests sources k (Err error) = Unit {0}

pub all_shown : (set : TaskSet) (graphs : List CodeGraph) (nests : List CodeNest)
    → length graphs ≡ length set.tasks → length nests ≡ length set.tasks
    → HasValues (ShownAt graphs) nests → AreTaskGraphs set graphs nests
all_shown set graphs nests one two has = record {
  all_graphs = one;
  all_nests = two;
  each = λ k lt.
      has k (get_or nests k no_nest) (slice_get-get_or nests k no_nest (omega (arith, lt, two)));
}

-- the graph at a place
pub graph_there : (graphs : List CodeGraph) (k : ℕ) (g : CodeGraph) (n : CodeNest)
    → slice_get graphs k ≡ Some g → IsNestOf g n → IsNestOf (graph_at graphs k) n
graph_there graphs k g n at is =
    subst (λ x. IsNestOf x n) (sym (get_or_from_slice_get graphs k g _ at)) is
