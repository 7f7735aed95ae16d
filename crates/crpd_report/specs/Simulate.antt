-- The text of a simulated run: a line for each job of the script, and one for the run.
use Rattle.std.specs.Prelude.{ℕ, ◌+◌, Bool, true, not, ◌&&◌, ◌||◌, ◌==◌, nat_le, if◌then◌else◌}
use Rattle.std.specs.Prelude.{List, [], ◌∷◌, ◌++◌, codes}
use Rattle.std.specs.Fmt.{decimal}
use Rattle.std.specs.List.{flat_map, list_all, zip}
use Rattle.crpd_base.specs.declared.data.Script.{Script}
use Rattle.crpd_base.specs.declared.data.ScriptJob.{ScriptJob}
use Rattle.crpd_base.specs.declared.data.TaskSet.{TaskSet}
use Rattle.crpd_base.specs.Tasks.{period_of, jitter_of, task_name}
use Rattle.preempt_machine.specs.declared.Completion.{Completion}
use Rattle.preempt_machine.specs.declared.End.{End}
use Rattle.preempt_machine.specs.declared.End.TheVariants.{Unreleased, Open, Answered, Faulted}

-- the text of a job's standing
abbrev pub end_text : End → List ℕ
end_text Unreleased = codes "unreleased"
end_text Open = codes "open"
end_text (Answered time) = codes "answer " ++ decimal time
end_text Faulted = codes "fault"

-- a job's number, its times by the script, and its standing
abbrev pub job_text : ScriptJob → Completion → List ℕ
job_text job completion =
    decimal completion.job.number ++ codes " arrival " ++ decimal job.arrival ++ codes " release "
    ++ decimal job.release ++ codes " " ++ end_text completion.«end»

-- the line of a job of the script with its completion
abbrev pub job_line : TaskSet → ScriptJob × Completion → List ℕ
job_line set pair =
    codes "job " ++ task_name set pair.0.task ++ codes " " ++ job_text pair.0 pair.1 ++ 10 ∷ []

-- the line of the run: whether the script is legal, and whether no watch was broken
abbrev pub run_line : Bool → Bool → List ℕ
run_line legal kept =
    codes "run " ++ (if legal then codes "legal" else codes "illegal") ++ codes " "
    ++ (if kept then codes "kept" else codes "broken") ++ 10 ∷ []

-- two jobs of one task arrive at least its period apart
abbrev pub are_spaced : TaskSet → ScriptJob → ScriptJob → Bool
are_spaced set x y =
    let period = period_of set x.task.0 in
    not (x.task.0 == y.task.0)
    || (nat_le (x.arrival + period) y.arrival || nat_le (y.arrival + period) x.arrival)

-- a job is released at its arrival or at most its task's jitter later
abbrev pub is_in_time : TaskSet → ScriptJob → Bool
is_in_time set job =
    nat_le job.arrival job.release && nat_le job.release (job.arrival + jitter_of set job.task.0)

-- a test of each item with each later one
unfoldable pub list_all_pairs : {A : Type 0} → (A → A → Bool) → List A → Bool
list_all_pairs test [] = true
list_all_pairs test (x ∷ xs) = list_all (test x) xs && list_all_pairs test xs

-- whether a script is legal by period and jitter, as a test
abbrev pub is_legal : TaskSet → List ScriptJob → Bool
is_legal set jobs = list_all_pairs (are_spaced set) jobs && list_all (is_in_time set) jobs

-- a line for each job in the script's order
unfoldable pub job_lines : TaskSet → List ScriptJob → List Completion → List ℕ
job_lines set jobs completions = flat_map (job_line set) (zip jobs completions)

-- the lines of the jobs, and the line of the run
abbrev pub simulate_text : TaskSet → Script → List Completion → Bool → List ℕ
simulate_text set script completions kept =
    job_lines set script.jobs completions ++ run_line (is_legal set script.jobs) kept
