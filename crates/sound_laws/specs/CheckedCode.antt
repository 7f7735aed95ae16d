-- What holds, besides safety, of a task set in its ranges with its code that the checker accepts:
-- an undisturbed job completes within a switch and its bound, and the reloads of an account are
-- within the certificate's delays, those of each higher task and all of them together.
use Rattle.std.specs.Prelude.{◌≡◌, ℕ, ◌+◌, ◌*◌, ◌<◌, ◌≤◌, ◌==◌, ◌&&◌, nat_lt, nat_le, Bool, IsTrue}
use Rattle.std.specs.Prelude.{List, length, map, slice_index}
use Rattle.std.specs.List.{count_by}
use Rattle.crpd_base.specs.declared.data.Certificate.{Certificate}
use Rattle.crpd_base.specs.declared.data.Script.{Script}
use Rattle.crpd_base.specs.declared.data.TaskPart.{TaskPart}
use Rattle.crpd_base.specs.declared.data.TaskSet.{TaskSet}
use Rattle.code_map.specs.Words.{Code}
use Rattle.crpd_base.specs.Arrivals.{IsLegal}
use Rattle.crpd_base.specs.declared.data.Method.{Method}
use Rattle.crpd_base.specs.declared.data.Method.TheVariants.{Ucb, Ecb}
use Rattle.delay_count.specs.Demand.{charged_delays, gamma}
use Rattle.evict_sets.specs.ListedPart.{certified_task}
use Rattle.loop_regions.specs.TaskGraph.{TaskGraph}
use Rattle.cert_check.specs.JudgeInput.{window_at, certified_part}
use Rattle.preempt_machine.specs.declared.End.TheVariants as «end»
use Rattle.preempt_machine.specs.Schedule.{completion, script_line}
use Rattle.preempt_machine.specs.Step.{Start, state}
use Rattle.preempt_machine.specs.Safe.{system_of, IsRunOf, IsKept, IsAnsweredBy, NamesTasks}
use Rattle.run_account.specs.declared.told.Account.{Account}
use Rattle.run_account.specs.declared.told.Entry.{Entry}
use Rattle.run_account.specs.Account.{IsAccount}
use Rattle.run_account.specs.Fetches.{job_after}
use Rattle.run_account.specs.Ledger.{IsWindowStart}
use Rattle.run_account.specs.Nodes.{job_task}
use Rattle.preempt_machine.specs.Starts.{start_of_script}
use Rattle.sound_laws.specs.Accepted.{IsChecked}
use Rattle.sound_laws.specs.Headline.{IsUndisturbed}

-- the certified bounds
abbrev pub bounds : Certificate → List ℕ
bounds c = map (λ (t : TaskPart). t.part.bound) c.tasks

-- from every cache and memory, in every kept run, legal or not: take the first step in which a job
-- is the candidate, and from there as many steps as a switch and the job's bound take. If the run
-- has all these steps, and in each of them the job is the candidate or has ended, it has completed
-- when they end
abbrev pub IsBoundedWith : TaskSet → Code → List ℕ → Type 0
IsBoundedWith set code bounds =
    (s : Start) (n x first : ℕ) → s.system ≡ system_of set code → IsRunOf set s → IsKept (state s n)
    → x < length s.lines →
    let steps = set.platform.switch + slice_index bounds (job_task s x) in
    first + steps ≤ n → IsUndisturbed s x first steps
    → IsAnsweredBy (first + steps) (job_after s n x).standing

-- after a yes that holds with the certified bounds
abbrev pub CheckedCodeIsBounded : Type 0
CheckedCodeIsBounded =
    (set : TaskSet) (code : Code) (graphs : ℕ → TaskGraph) (c : Certificate) →
    IsChecked set code graphs c → IsBoundedWith set code (bounds c)

-- the reloads of the window of a job of task i: those made from its start to the job's completion
-- by jobs of priority at least i's
abbrev pub is_in_window : ℕ → ℕ → ℕ → Entry → Bool
is_in_window i start answer e = nat_le start e.time && nat_lt e.time answer && nat_le e.job.task.0 i

-- the task of the job to which a method charges a reload
abbrev pub charged_task : Method → Entry → ℕ
charged_task Ucb e = e.evictor.task.0
charged_task Ecb e = e.preemptor.task.0

-- of an account of a script's run, by either method: take a job that has completed, the start of
-- its window, and a task j above its task i. The reloads of the window that are charged to a job of
-- j take at most the delay of j in i's window, with the certificate's parts and windows
abbrev pub IsWithinDelays : TaskSet → Code → Script → Certificate → Account → Type 0
IsWithinDelays set code script c a =
    (method : Method) (x start answer j : ℕ) → x < length script.jobs
    → (completion a.completions x).«end» ≡ «end».Answered answer →
    IsWindowStart (start_of_script set code script) x start →
    let i = (script_line script.jobs x).task.0 in j < i →
    count_by (λ (e : Entry). is_in_window i start answer e && (charged_task method e == j))
    a.entries * set.platform.miss
    ≤ gamma set (certified_part c) (window_at c) (window_at c i) method i j

-- after a yes that holds of the account of each legal and kept run from a script's start
abbrev pub CheckedAccountIsWithinDelays : Type 0
CheckedAccountIsWithinDelays =
    (set : TaskSet) (code : Code) (graphs : ℕ → TaskGraph) (c : Certificate) (script : Script)
    (a : Account) →
    IsChecked set code graphs c → NamesTasks set script.jobs → IsLegal set script.jobs →
    IsAccount (start_of_script set code script) graphs c script.cycles a → IsTrue a.kept →
    IsWithinDelays set code script c a

-- of an account of a script's run: take a job of task i that has completed, and the start of its
-- window. All reloads of the window together take at most the delays that the certificate charges
-- to i: the sum over all higher tasks, by the certificate's method for i
abbrev pub IsWithinDelay : TaskSet → Code → Script → Certificate → Account → Type 0
IsWithinDelay set code script c a =
    (x start answer : ℕ) → x < length script.jobs
    → (completion a.completions x).«end» ≡ «end».Answered answer →
    IsWindowStart (start_of_script set code script) x start →
    let i = (script_line script.jobs x).task.0 in
    count_by (is_in_window i start answer) a.entries * set.platform.miss
    ≤ charged_delays set (certified_part c) (window_at c) i (certified_task c i).method
    (window_at c i)

-- after a yes that holds of the account of each legal and kept run from a script's start
abbrev pub CheckedAccountIsWithinDelay : Type 0
CheckedAccountIsWithinDelay =
    (set : TaskSet) (code : Code) (graphs : ℕ → TaskGraph) (c : Certificate) (script : Script)
    (a : Account) →
    IsChecked set code graphs c → NamesTasks set script.jobs → IsLegal set script.jobs →
    IsAccount (start_of_script set code script) graphs c script.cycles a → IsTrue a.kept →
    IsWithinDelay set code script c a
