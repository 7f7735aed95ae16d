-- Which old task each new task is the same as, and what is reused from it.
use Rattle.std.specs.Prelude.{◌≡◌, ℕ, ◌<◌, List, length, slice_index_or, Option, None, Some}
use Rattle.std.specs.Prelude.{IfSome}
use Rattle.crpd_base.specs.Tasks.{place_of_name}
use Rattle.loop_regions.specs.CodeNest.{CodeNest}
use Rattle.loop_regions.specs.TaskGraphs.{nest_at}
use Rattle.task_shapes.specs.Inputs.{SetWithCode, name_at}
use Rattle.task_shapes.specs.Shapes.{SetWithShapes}
use Rattle.task_shapes.specs.SameTask.{IsSameTask}

-- the old task with the new task's name, if it is the same, otherwise none
abbrev pub IsSource : SetWithShapes → SetWithCode → ℕ → Option ℕ → Type 0
IsSource old input k (Some j) =
    (place_of_name old.input.set.tasks (name_at input k) ≡ Some j)
    × (j < length old.input.set.tasks) × IsSameTask old j input k
IsSource old input k None =
    (j : ℕ) → place_of_name old.input.set.tasks (name_at input k) ≡ Some j
    → IsSameTask old j input k → ⊥

-- the sources of the first n new tasks
pub record AreSources (old : SetWithShapes) (input : SetWithCode) (n : ℕ)
    (sources : List (Option ℕ)) : Type 0 where
  pub count : length sources ≡ n
  pub each : (k : ℕ) → k < n → IsSource old input k (slice_index_or sources k None)

-- the regions are those of the source, if there is one
abbrev pub IsTaken : List CodeNest → Option ℕ → CodeNest → Type 0
IsTaken nests source nest = IfSome source (λ j. nest ≡ nest_at nests j)
