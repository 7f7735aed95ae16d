-- The text of a generated input: its verdict, and the completions of the jobs of its script after
-- the script's cycles.
use Rattle.std.specs.Prelude.{◌≡◌, ℕ, ◌+◌, Bool, true, false, not, ◌&&◌, ◌↔◌, IsTrue, nat_le}
use Rattle.std.specs.Prelude.{count_by, List, [], ◌∷◌, ◌++◌, codes, length, map, slice_index, All}
use Rattle.std.specs.Fmt.{decimal}
use Rattle.std.specs.List.{range_with_len, zip}
use Rattle.crpd_base.specs.declared.data.Certificate.{Certificate}
use Rattle.crpd_base.specs.declared.data.Script.{Script}
use Rattle.crpd_base.specs.declared.data.ScriptJob.{ScriptJob}
use Rattle.crpd_base.specs.declared.data.Task.{Task}
use Rattle.crpd_base.specs.declared.data.TaskSet.{TaskSet}
use Rattle.cert_check.specs.declared.outcome.Verdict.{Verdict}
use Rattle.cert_check.specs.JudgeInput.{responses}
use Rattle.preempt_machine.specs.declared.Completion.{Completion}
use Rattle.preempt_machine.specs.declared.End.{End}
use Rattle.preempt_machine.specs.declared.End.TheVariants.{Unreleased, Open, Answered, Faulted}
use Rattle.preempt_machine.specs.Machine.{Job, Machine}
use Rattle.preempt_machine.specs.Running.{completion_at}
use Rattle.preempt_machine.specs.Safe.{IsLate, end_by}
use Rattle.crpd_report.specs.Check.{check_text}
use Rattle.crpd_report.specs.Simulate.{is_legal, run_line}

-- whether a job completed
abbrev pub is_answered : End → Bool
is_answered Unreleased = false
is_answered Open = false
is_answered (Answered time) = true
is_answered Faulted = false

-- whether a job completed at this time or earlier
abbrev pub is_answered_by : ℕ → End → Bool
is_answered_by deadline Unreleased = false
is_answered_by deadline Open = false
is_answered_by deadline (Answered time) = nat_le time deadline
is_answered_by deadline Faulted = false

-- whether a job with this response time is late after a number of steps: its arrival plus the
-- response has passed, and it has not completed by then
abbrev pub is_late : ℕ → ℕ → ScriptJob → End → Bool
is_late time response job «end» =
    nat_le (job.arrival + response) time && not (is_answered_by (job.arrival + response) «end»)

-- the response time that a certificate states for the task at a place
abbrev pub response_of : Certificate → Task → ℕ
response_of certificate task = slice_index (responses certificate) task.0

-- the number of jobs that completed
unfoldable pub answered_count : List Completion → ℕ
answered_count completions = count_by (λ (c : Completion). is_answered c.«end») completions

-- whether a job of a script is late after the script's cycles, by the response time of its task
abbrev pub is_late_in : Script → Certificate → ScriptJob × Completion → Bool
is_late_in script certificate pair =
    is_late script.cycles (response_of certificate pair.0.task) pair.0 pair.1.«end»

-- the number of jobs of a script that are late
unfoldable pub late_count : Script → Certificate → List Completion → ℕ
late_count script certificate completions =
    count_by (is_late_in script certificate) (zip script.jobs completions)

-- the line of the generated input: its number, the 16 tasks, and the nodes of all their graphs
abbrev pub made_line : ℕ → ℕ → List ℕ
made_line n nodes =
    codes "generated " ++ decimal n ++ codes " tasks 16 nodes " ++ decimal nodes ++ 10 ∷ []

-- the line of the jobs: how many there are, how many completed, and how many are late
abbrev pub jobs_line : ℕ → ℕ → ℕ → List ℕ
jobs_line jobs answered late =
    codes "jobs " ++ decimal jobs ++ codes " answered " ++ decimal answered ++ codes " late "
    ++ decimal late ++ 10 ∷ []

-- the whole text
unfoldable pub generate_text : ℕ → ℕ → TaskSet → Certificate → Verdict → Script → List Completion
    → Bool → List ℕ
generate_text n nodes set certificate verdict script completions kept =
    made_line n nodes ++ check_text set certificate verdict
    ++ jobs_line (length script.jobs) (answered_count completions)
    (late_count script certificate completions)
    ++ run_line (is_legal set script.jobs) kept

-- ---- what the counts mean for a run

-- the test on a job's completion decides whether the job is late
abbrev pub LateLaw : Type 0
LateLaw =
    (time response now : ℕ) (job : Job) →
    IsTrue (is_late time response job.line (end_by now job.line.release job.standing))
    ↔ IsLate time response job

-- if no job of a state is late by a certificate's response times, none of the state's completions
-- is counted
abbrev pub NoneLateLaw : Type 0
NoneLateLaw =
    (script : Script) (certificate : Certificate) (m : Machine) →
    script.jobs ≡ map (λ (job : Job). job.line) m.jobs →
    All (λ (job : Job). IsLate script.cycles (slice_index (responses certificate) job.line.task.0)
    job → ⊥) m.jobs →
    late_count script certificate (map (completion_at m) (range_with_len 0 (length m.jobs))) ≡ 0
