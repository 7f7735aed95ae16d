-- The reloads by sound parts, and the delays of a window that cover them.
use Rattle.std.specs.Prelude.{◌≡◌, ℕ, ◌*◌, ◌<◌, ◌≤◌, Bool, true, false}
use Rattle.crpd_base.specs.declared.data.TaskSet.{TaskSet}
use Rattle.crpd_base.specs.declared.data.Method.{Method}
use Rattle.crpd_base.specs.declared.data.Method.TheVariants.{Ucb, Ecb}
use Rattle.icache.specs.Cache.{is_hit}
use Rattle.loop_regions.specs.TaskGraph.{TaskGraph}
use Rattle.walk_parts.specs.Parts.{WalkPart}
use Rattle.preempt_machine.specs.Step.{Fetch, Start, state}
use Rattle.run_account.specs.Nodes.{job_task}
use Rattle.run_account.specs.Reloads.{fetched_block, FetchesAt, IsEvictor, IsPreemptor}
use Rattle.sound_laws.specs.StepTests.{is_counted, count_below}
use Rattle.sound_laws.specs.Windows.{HasWindow}

-- a reload of job x at step n, by the parts of the tasks: a fetch that misses at a node that is
-- counted as a hit on the walk that leads to it
pub record IsReloadByPart (s : Start) (graphs : ℕ → TaskGraph) (parts : ℕ → WalkPart)
    (n x : ℕ) (f : Fetch) : Type 0 where
  pub fetches : FetchesAt s x n f
  pub counted : is_counted s graphs (parts (job_task s x)).counts x n ≡ true
  pub misses : is_hit s.system.platform (state s n).cache (fetched_block s f) ≡ false

-- with its evictor, and with its preemptor
pub record IsEvictedByPart (s : Start) (graphs : ℕ → TaskGraph) (parts : ℕ → WalkPart)
    (n x y : ℕ) : Type 0 where
  pub fetch : Fetch
  pub reload : IsReloadByPart s graphs parts n x fetch
  pub time : ℕ
  pub last : Fetch
  pub is : IsEvictor s y n time fetch last

pub record IsPreemptedByPart (s : Start) (graphs : ℕ → TaskGraph) (parts : ℕ → WalkPart)
    (n x p : ℕ) : Type 0 where
  pub fetch : Fetch
  pub reload : IsReloadByPart s graphs parts n x fetch
  pub from : ℕ
  pub time : ℕ
  pub until : ℕ
  pub is : IsPreemptor s x p n from time until fetch

-- the job to which a method charges it
abbrev pub IsChargedByPart : Method → Start → (ℕ → TaskGraph) → (ℕ → WalkPart) → ℕ → ℕ → ℕ → Type 0
IsChargedByPart Ucb s graphs parts n x y = IsEvictedByPart s graphs parts n x y
IsChargedByPart Ecb s graphs parts n x y = IsPreemptedByPart s graphs parts n x y

-- reloads of the window by jobs of priority at least i's, charged to a job of task j
abbrev pub ChargedByPart : Method → Start → (ℕ → TaskGraph) → (ℕ → WalkPart) → ℕ → ℕ → ℕ → ℕ → Type 0
ChargedByPart method s graphs parts i t j n =
    (t ≤ n) × (x y : ℕ) × (job_task s x ≤ job_task s i) × (job_task s y ≡ j)
    × IsChargedByPart method s graphs parts n x y

-- a delay of each pair of tasks covers the reloads of the windows
abbrev pub CoversPartReloads : TaskSet → (ℕ → TaskGraph) → (ℕ → WalkPart) → Method
    → (ℕ → ℕ → ℕ) → Type 0
CoversPartReloads set graphs parts method delay =
    (s : Start) (i t until j : ℕ) (test : ℕ → Bool) →
    HasWindow s set graphs i t until → j ≤ job_task s i →
    ((n : ℕ) → test n ≡ true → (n < until) × ChargedByPart method s graphs parts i t j n) →
    set.platform.miss * count_below test until ≤ delay (job_task s i) j
