-- The text of an account: the reloads of a run, and the delays that a certificate charges.
use Rattle.std.specs.Prelude.{ℕ, ◌≡◌, ◌+◌, ◌<◌, ◌≤◌, List, [], ◌∷◌, ◌++◌, codes, length}
use Rattle.std.specs.Fmt.{decimal}
use Rattle.std.specs.List.{flat_map, range_with_len}
use Rattle.crpd_base.specs.declared.data.Certificate.{Certificate}
use Rattle.crpd_base.specs.declared.data.JobId.{JobId}
use Rattle.crpd_base.specs.declared.data.Script.{Script}
use Rattle.crpd_base.specs.declared.data.TaskSet.{TaskSet}
use Rattle.crpd_base.specs.Tasks.{jitter_of, deadline_of, task_name}
use Rattle.delay_count.specs.Demand.{charged_delays}
use Rattle.evict_sets.specs.ListedPart.{certified_task}
use Rattle.cert_check.specs.JudgeInput.{certified_part, window_at}
use Rattle.run_account.specs.declared.told.Account.{Account}
use Rattle.run_account.specs.declared.told.Entry.{Entry}
use Rattle.crpd_report.specs.Simulate.{is_legal, run_line}

-- a job, by its task's name and its number
abbrev pub job_name : TaskSet → JobId → List ℕ
job_name set job = task_name set job.task ++ codes " " ++ decimal job.number

-- the job that reloaded, the cache set, and the cycle
abbrev pub miss_text : TaskSet → Entry → List ℕ
miss_text set e =
    codes "reload " ++ job_name set e.job ++ codes " set " ++ decimal e.set ++ codes " cycle "
    ++ decimal e.time

-- the job that evicted the block, and the job that preempted
abbrev pub cause_text : TaskSet → Entry → List ℕ
cause_text set e =
    codes "evictor " ++ job_name set e.evictor ++ codes " preemptor " ++ job_name set e.preemptor

-- the line of a reload
abbrev pub reload_line : TaskSet → Entry → List ℕ
reload_line set e = miss_text set e ++ codes " " ++ cause_text set e ++ 10 ∷ []

-- the lines of all reloads
unfoldable pub reload_lines : TaskSet → List Entry → List ℕ
reload_lines set reloads = flat_map (reload_line set) reloads

-- the delays that a certificate charges to the task at a place, of all higher tasks together: in
-- the task's window, by its method, with the certificate's parts and windows
abbrev pub delay_of : TaskSet → Certificate → ℕ → ℕ
delay_of set certificate i =
    charged_delays set (certified_part certificate) (window_at certificate) i
    (certified_task certificate i).method (window_at certificate i)

-- the line of a task's certified delays
abbrev pub delay_line : TaskSet → Certificate → ℕ → List ℕ
delay_line set certificate i =
    codes "delay " ++ task_name set (record { 0 = i }) ++ codes " "
    ++ decimal (delay_of set certificate i) ++ 10 ∷ []

-- a line for each task of the set
unfoldable pub delay_lines : TaskSet → Certificate → List ℕ
delay_lines set certificate =
    flat_map (delay_line set certificate) (range_with_len 0 (length set.tasks))

-- the lines of the reloads and of the delays, and the line of the run
abbrev pub explain_text : TaskSet → Certificate → Script → Account → List ℕ
explain_text set certificate script account =
    reload_lines set account.entries ++ delay_lines set certificate
    ++ run_line (is_legal set script.jobs) account.kept

-- a certificate has a part for each task of the set, whose window plus the task's jitter is at most
-- the deadline
pub record HasWindowOfEach (set : TaskSet) (certificate : Certificate) : Type 0 where
  pub tasks : length certificate.tasks ≡ length set.tasks
  pub in_deadline : (k : ℕ) → k < length set.tasks
      → window_at certificate k + jitter_of set k ≤ deadline_of set k
