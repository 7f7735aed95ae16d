-- The busy window of a job: which jobs run in it, how often the core goes from one to another, how
-- many jobs are released in it, and that the job completes in it.
use Rattle.std.specs.Prelude.{◌≡◌, ◌≢◌, ◌⊎◌, ℕ, ◌+◌, ◌*◌, ◌<◌, ◌≤◌, ◌==◌, ◌&&◌, nat_lt, nat_le, not}
use Rattle.std.specs.Prelude.{Bool, false, length, Some}
use Rattle.std.specs.Option.{option_map_or}
use Rattle.crpd_base.specs.declared.data.Certificate.{Certificate}
use Rattle.crpd_base.specs.declared.data.TaskSet.{TaskSet}
use Rattle.crpd_base.specs.Tasks.{period_of}
use Rattle.delay_count.specs.Counts.{jobs_of}
use Rattle.delay_count.specs.Demand.{blocking}
use Rattle.loop_regions.specs.TaskGraph.{TaskGraph}
use Rattle.cert_check.specs.JudgeInput.{longest_at, window_at}
use Rattle.cert_check.specs.Verdict.{IsYes}
use Rattle.preempt_machine.specs.Step.{candidate, Fetch, fetch_at, is_owner, Start, state}
use Rattle.preempt_machine.specs.Safe.{IsAnsweredBy, IsKept}
use Rattle.run_account.specs.Fetches.{job_after}
use Rattle.run_account.specs.Ledger.{IsWindowStart}
use Rattle.run_account.specs.Nodes.{job_task}
use Rattle.sound_laws.specs.Accepted.{IsAccepted}
use Rattle.sound_laws.specs.StepTests.{count_below}
use Rattle.sound_laws.specs.Walks.{RunsLegally}
use Rattle.sound_laws.specs.Windows.{HasWindow}

-- the jobs of the window of job i that starts at step t: i, and those of higher tasks that are
-- released at t or later
abbrev pub IsOfWindow : Start → ℕ → ℕ → ℕ → Type 0
IsOfWindow s i t y =
    (y ≡ i) ⊎ ((job_task s y < job_task s i) × (t ≤ (job_after s 0 y).line.release))

-- at step n a job of i's task or of a lower one, which owned the core at step t, continues an
-- instruction: it is the candidate, and cycles of the instruction are left
pub record Continues (s : Start) (i t n : ℕ) : Type 0 where
  pub job : ℕ
  pub is_candidate : candidate s.system (state s n) ≡ Some job
  pub owner : (state s t).owner ≡ Some job
  pub not_higher : job_task s i ≤ job_task s job
  pub under_way : 1 ≤ (job_after s n job).left

-- the front of the window, its steps before another one: each of them continues an instruction that
-- was begun before t, and makes no fetch
pub record IsWindowFront (s : Start) (i t from : ℕ) : Type 0 where
  pub after : t ≤ from
  pub each : (n : ℕ) → t ≤ n → n < from → Continues s i t n
  pub no_fetch : (n : ℕ) (f : Fetch) → t ≤ n → n < from → fetch_at s n ≢ Some f

-- up to a step the window is busy: after a front of at most so many steps the candidate of each
-- step is a job of the window
pub record IsBusyWindow (s : Start) (i t until most : ℕ) : Type 0 where
  pub from : ℕ
  pub front : IsWindowFront s i t from
  pub short : from ≤ t + most
  pub busy : (n : ℕ) → from ≤ n → n < until
      → (y : ℕ) × (candidate s.system (state s n) ≡ Some y) × IsOfWindow s i t y

-- after a yes so is the window of each job of a legal and kept run, while the job is open. Its
-- front takes at most the blocking: no step, if switches may happen at every cycle
abbrev pub WindowIsBusy : Type 0
WindowIsBusy =
    (s : Start) (set : TaskSet) (graphs : ℕ → TaskGraph) (c : Certificate) (i t until : ℕ) →
    IsYes set graphs c → HasWindow s set graphs i t until →
    IsBusyWindow s i t until
    (blocking set.platform.switching (longest_at set.platform graphs) (job_task s i)
    (length set.tasks))

-- whether the core goes to another job at a step: its candidate is not the owner
abbrev pub is_switch : Start → ℕ → Bool
is_switch s n =
    option_map_or (λ y. not (is_owner (state s n).owner y)) (candidate s.system (state s n)) false

-- whether a job is released at a step or later, and before another step
abbrev pub is_released_in : Start → ℕ → ℕ → ℕ → Bool
is_released_in s t until y =
    nat_le t (job_after s 0 y).line.release && nat_lt (job_after s 0 y).line.release until

-- after a yes, in a legal and kept run: in the window of a job that is open the core goes to
-- another job at most once for the job, and twice for each job of a higher task that is released
abbrev pub SwitchesAreFew : Type 0
SwitchesAreFew =
    (s : Start) (set : TaskSet) (graphs : ℕ → TaskGraph) (c : Certificate) (i t until : ℕ) →
    IsYes set graphs c → HasWindow s set graphs i t until →
    count_below (λ n. nat_le t n && is_switch s n) until
    ≤ 1 + 2 * count_below
    (λ y. nat_lt (job_task s y) (job_task s i) && is_released_in s t until y) (length s.lines)

-- in a legal run, in any so many steps, at most the counted jobs of a task are released
abbrev pub ReleasesAreFew : Type 0
ReleasesAreFew =
    (s : Start) (set : TaskSet) (t w j : ℕ) → RunsLegally set s → 1 ≤ period_of set j →
    count_below (λ y. (job_task s y == j) && is_released_in s t (t + w) y) (length s.lines)
    ≤ jobs_of set j w

-- after a yes, in a legal and kept run, each job completes within its task's certified window from
-- the start of its own window
abbrev pub CompletesInWindow : Type 0
CompletesInWindow =
    (s : Start) (set : TaskSet) (graphs : ℕ → TaskGraph) (c : Certificate) (n i t : ℕ) →
    IsAccepted s.system set graphs c → RunsLegally set s → IsKept (state s n) →
    i < length s.lines → IsWindowStart s i t → t + window_at c (job_task s i) ≤ n
    → IsAnsweredBy (t + window_at c (job_task s i)) (job_after s n i).standing
