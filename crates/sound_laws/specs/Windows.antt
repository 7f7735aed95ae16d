-- The reloads of a window are at most the delays.
use Rattle.std.specs.Prelude.{◌≡◌, ℕ, ◌+◌, ◌*◌, ◌<◌, ◌≤◌, Bool, true, length}
use Rattle.crpd_base.specs.declared.data.TaskSet.{TaskSet}
use Rattle.crpd_base.specs.declared.data.Method.{Method}
use Rattle.crpd_base.specs.declared.data.Part.{Part}
use Rattle.crpd_base.specs.declared.data.Method.TheVariants.{Ucb, Ecb}
use Rattle.crpd_base.specs.Tasks.{jitter_of, deadline_of}
use Rattle.delay_count.specs.Demand.{gamma, demand_by}
use Rattle.crpd_base.specs.declared.data.Certificate.{Certificate}
use Rattle.loop_regions.specs.TaskGraph.{TaskGraph}
use Rattle.cert_check.specs.JudgeInput.{window_at, certified_part, longest_at}
use Rattle.cert_check.specs.Verdict.{IsYes}
use Rattle.preempt_machine.specs.Step.{is_open, Start, state}
use Rattle.preempt_machine.specs.Safe.{IsKept}
use Rattle.run_account.specs.Fetches.{job_after}
use Rattle.run_account.specs.Nodes.{job_task}
use Rattle.run_account.specs.Ledger.{IsEvicted, IsPreempted, IsWindowStart}
use Rattle.sound_laws.specs.Walks.{HasTaskRanges, IsCodeOf, RunsLegally}
use Rattle.sound_laws.specs.StepTests.{count_below}

-- windows have room for their demands with a delay of each pair of tasks, and with the jitters they
-- are within the deadlines. The demand of each task has parts of its own for all tasks
pub record HaveRoom (set : TaskSet) (graphs : ℕ → TaskGraph) (parts : ℕ → ℕ → Part)
    (window : ℕ → ℕ) (delay : ℕ → ℕ → ℕ) : Type 0 where
  pub room : (k : ℕ) → k < length set.tasks
      → demand_by set (parts k) (longest_at set.platform graphs) k (delay k) (window k) ≤ window k
  pub in_deadline : (k : ℕ) → k < length set.tasks → window k + jitter_of set k
      ≤ deadline_of set k

-- a legal run of a set with its code that is kept up to a step, and a job i that is open up to it,
-- with its window's start
pub record HasWindow (s : Start) (set : TaskSet) (graphs : ℕ → TaskGraph)
    (i t until : ℕ) : Type 0 where
  pub in_range : HasTaskRanges set
  pub code : IsCodeOf s.system set graphs
  pub run : RunsLegally set s
  pub kept : IsKept (state s until)
  pub job : i < length s.lines
  pub starts : IsWindowStart s i t
  pub open_before : (n : ℕ) → n < until → is_open (job_after s n i).standing ≡ true

-- the job to which a method charges a reload of job x: the evictor by the UCB-union method, the
-- preemptor by the ECB-union method
abbrev pub IsCharged : Method → Start → (ℕ → TaskGraph) → Certificate → ℕ → ℕ → ℕ → Type 0
IsCharged Ucb s graphs c n x y = IsEvicted s graphs c n x y
IsCharged Ecb s graphs c n x y = IsPreempted s graphs c n x y

-- reloads of the window by jobs of priority at least i's, charged to a job of task j
abbrev pub ChargedTo : Method → Start → (ℕ → TaskGraph) → Certificate → ℕ → ℕ → ℕ → ℕ → Type 0
ChargedTo method s graphs c i t j n =
    (t ≤ n) × (x y : ℕ) × (job_task s x ≤ job_task s i) × (job_task s y ≡ j)
    × IsCharged method s graphs c n x y

-- a delay of each pair of tasks covers the reloads of the windows: the steps that pass a test, each
-- with a reload of a window of task i that is charged to a job of task j, take at most the delay
abbrev pub CoversReloads : TaskSet → (ℕ → TaskGraph) → Certificate → Method → (ℕ → ℕ → ℕ) → Type 0
CoversReloads set graphs c method delay =
    (s : Start) (i t until j : ℕ) (test : ℕ → Bool) →
    HasWindow s set graphs i t until → j ≤ job_task s i →
    ((n : ℕ) → test n ≡ true → (n < until) × ChargedTo method s graphs c i t j n) →
    set.platform.miss * count_below test until ≤ delay (job_task s i) j

-- after a yes the delay by either method does so, whichever method the certificate names
abbrev pub ReloadsWithinDelays : Type 0
ReloadsWithinDelays =
    (set : TaskSet) (graphs : ℕ → TaskGraph) (c : Certificate) (method : Method) →
    IsYes set graphs c →
    CoversReloads set graphs c method
    (λ i. gamma set (certified_part c) (window_at c) (window_at c i) method i)
