-- The text of a verdict on a certificate.
use Rattle.std.specs.Prelude.{ℕ, ◌<◌, List, length, [], ◌∷◌, ◌++◌, codes}
use Rattle.std.specs.Fmt.{decimal}
use Rattle.std.specs.List.{flat_map, zip}
use Rattle.crpd_base.specs.Names.{method_name}
use Rattle.crpd_base.specs.declared.data.Certificate.{Certificate}
use Rattle.crpd_base.specs.declared.data.TaskPart.{TaskPart}
use Rattle.crpd_base.specs.declared.data.TaskSet.{TaskSet}
use Rattle.crpd_base.specs.declared.data.TaskSpec.{TaskSpec}
use Rattle.cert_check.specs.declared.outcome.Verdict.{Verdict}
use Rattle.cert_check.specs.declared.outcome.Verdict.TheVariants.{Yes, No}
use Rattle.crpd_base.specs.Tasks.{task_name}

-- the times of a task, and the method by which its window was found
abbrev pub times_text : (bound window response : ℕ) → List ℕ → List ℕ
times_text bound window response method =
    codes "bound " ++ decimal bound ++ codes " window " ++ decimal window
    ++ codes " response " ++ decimal response ++ codes " method " ++ method

-- the times that a certificate states
abbrev pub stated_times : TaskPart → List ℕ
stated_times p = times_text p.part.bound p.window p.response (method_name p.method)

-- the line of a task
abbrev pub task_line : TaskSpec × TaskPart → List ℕ
task_line pair = pair.0.name ++ codes " " ++ stated_times pair.1 ++ 10 ∷ []

-- every clause holds: a line for each task of the set, with the times that the certificate states
-- at its place
unfoldable pub yes_text : TaskSet → Certificate → List ℕ
yes_text set certificate =
    (codes "yes" ++ 10 ∷ []) ++ flat_map task_line (zip set.tasks certificate.tasks)

-- a clause does not hold for a task
abbrev pub no_text : List ℕ → ℕ → ℕ → List ℕ
no_text name clause place =
    codes "no " ++ name ++ codes " clause " ++ decimal clause ++ codes " place "
    ++ decimal place ++ 10 ∷ []

-- the text of a verdict
abbrev pub check_text : TaskSet → Certificate → Verdict → List ℕ
check_text set certificate Yes = yes_text set certificate
check_text set certificate (No task clause place) = no_text (task_name set task) clause place

-- the task that a verdict names is in the set
abbrev pub NamesTask : TaskSet → Verdict → Type 0
NamesTask set Yes = Unit {0}
NamesTask set (No task clause place) = task.0 < length set.tasks
