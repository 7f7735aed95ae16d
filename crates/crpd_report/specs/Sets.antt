-- The text of the evicting and useful cache sets of tasks.
use Rattle.std.specs.Prelude.{ℕ, List, [], ◌∷◌, ◌++◌, codes}
use Rattle.std.specs.Fmt.{decimal}
use Rattle.std.specs.List.{flat_map, zip}
use Rattle.crpd_base.specs.Limits.{most_sets}
use Rattle.crpd_base.specs.declared.data.Part.{Part}
use Rattle.crpd_base.specs.declared.data.TaskSet.{TaskSet}
use Rattle.crpd_base.specs.declared.data.TaskSpec.{TaskSpec}
use Rattle.crpd_base.specs.Sets.{has}
use Rattle.crpd_report.specs.List.{those_below}

-- a number with a space before it
abbrev pub number_text : ℕ → List ℕ
number_text number = codes " " ++ decimal number

-- the numbers of a set, in increasing order
unfoldable pub numbers_text : List ℕ → List ℕ
numbers_text words = flat_map number_text (those_below most_sets (has words))

-- the two lines of a task of this name
abbrev pub part_lines : List ℕ → Part → List ℕ
part_lines name part =
    (name ++ codes " evicting" ++ numbers_text part.evicting ++ 10 ∷ [])
    ++ (name ++ codes " useful" ++ numbers_text part.useful ++ 10 ∷ [])

-- the lines of a task with its part
abbrev pub task_lines : TaskSpec × Part → List ℕ
task_lines pair = part_lines pair.0.name pair.1

-- the lines of each task with the part at its place
unfoldable pub sets_text : TaskSet → List Part → List ℕ
sets_text set parts = flat_map task_lines (zip set.tasks parts)
