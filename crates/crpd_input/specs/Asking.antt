-- The files that steps ask for, in order.
use Rattle.std.specs.Prelude.{◌≡◌, ℕ, List, [], ◌∷◌, ◌++◌, Result, Ok, Err, IfOk, position}
use Rattle.std.specs.Option.{option_map_or}
use Rattle.std.specs.Str.{bytes_eq}
use Rattle.crpd_base.specs.declared.data.TaskSet.{TaskSet}
use Rattle.crpd_base.specs.declared.data.TaskSpec.{TaskSpec}
use Rattle.crpd_io.specs.Asked.{Asked}
use Rattle.crpd_io.specs.Outside.{Contents, FileAnswer, HoldsFor}
use Rattle.crpd_input.specs.declared.halt.Halt.{Halt}
use Rattle.crpd_input.specs.Reading.{set_in}

-- a file, unless one of these tasks names it
abbrev pub unless_named : List TaskSpec → List ℕ → List (List ℕ)
unless_named tasks file =
    option_map_or (λ place. []) (position (λ t. bytes_eq file t.file) tasks) (file ∷ [])

-- the files of tasks, each at the first task that names it, without those of earlier tasks
abbrev pub new_files : (earlier tasks : List TaskSpec) → List (List ℕ)
new_files earlier [] = []
new_files earlier (t ∷ tasks) =
    unless_named earlier t.file ++ new_files (earlier ++ t ∷ []) tasks

-- the files of a set's tasks, each once
abbrev pub task_files : TaskSet → List (List ℕ)
task_files set = new_files [] set.tasks

-- the files of the tasks, if there is a set
abbrev pub files_of_set : Result TaskSet Halt → List (List ℕ)
files_of_set (Ok set) = task_files set
files_of_set (Err halt) = []

-- the file of a set, and those of its tasks
abbrev pub set_files : Contents → List ℕ → List (List ℕ)
set_files contents name = name ∷ files_of_set (set_in contents name)

-- these are the first of the files, and all of them if there is a result
abbrev pub AreFirst : {A : Type 0} → (names files : List (List ℕ)) → Result A Halt → Type 0
AreFirst names files result =
    (rest : List (List ℕ)) × (files ≡ names ++ rest) × IfOk result (λ value. rest ≡ [])

-- A step asked for these files, in order, and no others; after a stop perhaps only for the first of
-- them. Which files these are depends on contents: those that agree with the answers.
pub record AsksFor {A : Type 0} (old new : List FileAnswer) (files : Contents → List (List ℕ))
    (result : Result A Halt) : Type 0 where
  pub names : List (List ℕ)
  pub asked : Asked old new names
  pub first : HoldsFor old new (λ c. AreFirst names (files c) result)
