-- The ledger's reloads of a job's window are at most the delays.
use Rattle.std.specs.Prelude.{◌≡◌, ℕ, ◌*◌, ◌<◌, ◌≤◌, ◌==◌, ◌&&◌, nat_lt, nat_le, Bool, List, length}
use Rattle.std.specs.List.{count_by}
use Rattle.crpd_base.specs.declared.data.TaskSet.{TaskSet}
use Rattle.crpd_base.specs.declared.data.Method.{Method}
use Rattle.crpd_base.specs.declared.data.Method.TheVariants.{Ucb, Ecb}
use Rattle.crpd_base.specs.declared.data.Certificate.{Certificate}
use Rattle.delay_count.specs.Demand.{gamma}
use Rattle.loop_regions.specs.TaskGraph.{TaskGraph}
use Rattle.cert_check.specs.JudgeInput.{window_at, certified_part}
use Rattle.cert_check.specs.Verdict.{IsYes}
use Rattle.preempt_machine.specs.Machine.{Answered}
use Rattle.preempt_machine.specs.Step.{Start, state}
use Rattle.preempt_machine.specs.Safe.{IsKept}
use Rattle.run_account.specs.Fetches.{job_after}
use Rattle.run_account.specs.Nodes.{job_task}
use Rattle.run_account.specs.Ledger.{IsWindowStart, LedgerReload, IsLedger}
use Rattle.sound_laws.specs.Walks.{HasTaskRanges, IsCodeOf, RunsLegally}

-- a legal run that is kept after n steps, with its ledger, and a job that has completed, with its
-- window's start
pub record HasAnswered (s : Start) (set : TaskSet) (graphs : ℕ → TaskGraph) (c : Certificate)
    (n : ℕ) (ledger : List LedgerReload) (x start answer : ℕ) : Type 0 where
  pub in_range : HasTaskRanges set
  pub code : IsCodeOf s.system set graphs
  pub run : RunsLegally set s
  pub kept : IsKept (state s n)
  pub is_ledger : IsLedger s graphs c n ledger
  pub job : x < length s.lines
  pub answered : (job_after s n x).standing ≡ Answered answer
  pub starts : IsWindowStart s x start

-- the reloads of the window: those made from its start to the completion by jobs of priority at
-- least the job's
abbrev pub is_reload_in_window : Start → ℕ → ℕ → ℕ → LedgerReload → Bool
is_reload_in_window s x start answer e =
    nat_le start e.time && nat_lt e.time answer && nat_le (job_task s e.job) (job_task s x)

-- the job to which a method charges a reload
abbrev pub charged_job : Method → LedgerReload → ℕ
charged_job Ucb e = e.evictor
charged_job Ecb e = e.preemptor

-- the reloads that are charged to a job of task j
abbrev pub charged_to : Method → Start → ℕ → LedgerReload → Bool
charged_to method s j e = job_task s (charged_job method e) == j

-- for each higher task j, the reloads that a method charges to it take at most a delay
abbrev pub CoversLedgers : TaskSet → (ℕ → TaskGraph) → Certificate → Method → (ℕ → ℕ → ℕ) → Type 0
CoversLedgers set graphs c method delay =
    (s : Start) (n : ℕ) (ledger : List LedgerReload) (x start answer j : ℕ) →
    HasAnswered s set graphs c n ledger x start answer → j < job_task s x →
    count_by (λ e. is_reload_in_window s x start answer e && charged_to method s j e)
    ledger * set.platform.miss
    ≤ delay (job_task s x) j

-- after a yes the delay by either method does so, whichever method the certificate names
abbrev pub LedgerWithinDelays : Type 0
LedgerWithinDelays =
    (set : TaskSet) (graphs : ℕ → TaskGraph) (c : Certificate) (method : Method) →
    IsYes set graphs c →
    CoversLedgers set graphs c method
    (λ i. gamma set (certified_part c) (window_at c) (window_at c i) method i)
