-- What is recorded of a run's fetches so far.
use Rattle.std.specs.Prelude.{◌≡◌, ◌≢◌, ◌⊎◌, ℕ, ◌<◌, true, List, length, Option, Some, None, map}
use Rattle.crpd_base.specs.declared.data.Certificate.{Certificate}
use Rattle.loop_regions.specs.TaskGraph.{TaskGraph}
use Rattle.preempt_machine.specs.Safe.{IsKept}
use Rattle.preempt_machine.specs.Step.{before, Fetch, Start, state, fetch_at}
use Rattle.run_account.specs.declared.trails.Gap.{Gap}
use Rattle.run_account.specs.declared.trails.Reload.{Reload}
use Rattle.run_account.specs.declared.trails.Touch.{Touch}
use Rattle.run_account.specs.declared.trails.Trails.{Trails}
use Rattle.run_account.specs.Fetches.{IsLastFetchTo, NoFetchTo}
use Rattle.run_account.specs.Ledger.{LedgerReload, IsLedger}
use Rattle.run_account.specs.Nodes.{job_task}
use Rattle.run_account.specs.Reloads.{FetchesAt}
use Rattle.run_account.specs.Inner.Searches.{optional_at, gap_at, gaps_of}
use Rattle.run_account.specs.Walks.{fetched_nodes}
use Rattle.run_account.specs.Inner.Walks.{first_of}

-- of the first n steps, job x made its last fetch at step t
pub record IsLastFetchOf (s : Start) (x n t : ℕ) : Type 0 where
  pub earlier : t < n
  pub fetch : Fetch
  pub is : FetchesAt s x t fetch
  pub none : (u : ℕ) (f : Fetch) → t < u → u < n → FetchesAt s x u f → ⊥

-- the time of a job's last fetch in the first n steps, or none if it made none
abbrev pub IsLastFetch : Start → ℕ → ℕ → Option ℕ → Type 0
IsLastFetch s x n None = (t : ℕ) (f : Fetch) → t < n → FetchesAt s x t f → ⊥
IsLastFetch s x n (Some t) = IsLastFetchOf s x n t

-- the last fetch to a set, by its job and time
pub record IsTouchOf (s : Start) (set n : ℕ) (w : Touch) : Type 0 where
  pub fetch : Fetch
  pub last : IsLastFetchTo s set n w.time fetch
  pub by : fetch.job ≡ w.job

-- the same, or none if there was no fetch to the set
abbrev pub IsTouch : Start → ℕ → ℕ → Option Touch → Type 0
IsTouch s set n None = NoFetchTo s set 0 n
IsTouch s set n (Some w) = IsTouchOf s set n w

-- no other job fetched since the last fetch of x
abbrev pub IsAlone : Start → ℕ → ℕ → Type 0
IsAlone s x n =
    (t : ℕ) → IsLastFetchOf s x n t → (u : ℕ) (f : Fetch) → t < u → u < n
    → fetch_at s u ≡ Some f → ⊥

-- the job of the last fetch to any set, if one is recorded
abbrev pub IsTrailOwner : Start → ℕ → Option ℕ → Type 0
IsTrailOwner s n None = Unit {0}
IsTrailOwner s n (Some x) = IsAlone s x n

-- job x fetches at a step and at the gap's end and not between them; the gap names the last, in the
-- order of jobs, of those who fetched between
pub record IsGapOf (s : Start) (x n from : ℕ) (g : Gap) : Type 0 where
  pub after : from < g.until
  pub within : g.until < n
  pub first : Fetch
  pub second : Fetch
  pub begins : FetchesAt s x from first
  pub ends : FetchesAt s x g.until second
  pub none : (w : ℕ) (f : Fetch) → from < w → w < g.until → fetch_at s w ≡ Some f → f.job ≢ x
  pub at : ℕ
  pub fetch : Fetch
  pub since : from < at
  pub before_end : at < g.until
  pub by : FetchesAt s g.latest at fetch
  pub latest : (w : ℕ) (f : Fetch) → from < w → w < g.until → fetch_at s w ≡ Some f
      → (f.job ≡ g.latest) ⊎ (before (state s 0).jobs f.job g.latest ≡ true)

-- a gap of the list contains the step
pub record IsInGap (s : Start) (x n : ℕ) (gaps : List Gap) (v : ℕ) : Type 0 where
  pub place : ℕ
  pub below : place < length gaps
  pub from : ℕ
  pub gap : IsGapOf s x n from (gap_at gaps place)
  pub after : from < v
  pub until : v < (gap_at gaps place).until

-- the gaps of job x in the order of their times, with each fetch of another job between two of x
pub record AreGapsOf (s : Start) (x n : ℕ) (gaps : List Gap) : Type 0 where
  pub each : (k : ℕ) → k < length gaps → (from : ℕ) × IsGapOf s x n from (gap_at gaps k)
  pub ordered : (j k : ℕ) → j < k → k < length gaps → (gap_at gaps j).until < (gap_at gaps k).until
  pub complete : (u v c : ℕ) (f g h : Fetch) → u < v → v < c → c < n → FetchesAt s x u f
      → fetch_at s v ≡ Some g → g.job ≢ x → FetchesAt s x c h → IsInGap s x n gaps v

-- a recorded reload, as one of the ledger
abbrev pub ledger_reload_of : Reload → LedgerReload
ledger_reload_of r = record {
  job = r.job;
  set = r.set;
  time = r.time;
  evictor = r.evictor;
  preemptor = r.preemptor;
}

-- what is recorded of the first n steps of a run: the nodes are those of the last fetches while the
-- state is kept
pub record AreTrailsOf (s : Start) (graphs : ℕ → TaskGraph) (c : Certificate) (n : ℕ)
    (t : Trails) : Type 0 where
  pub all_nodes : length t.nodes.items ≡ length s.lines
  pub all_lasts : length t.lasts.items ≡ length s.lines
  pub all_gaps : length t.gaps.items ≡ length s.lines
  pub all_sets : length t.sets.items ≡ s.system.platform.sets
  pub nodes : IsKept (state s n) → (x : ℕ) → x < length s.lines
      → optional_at t.nodes.items x ≡ first_of (fetched_nodes s graphs n x)
  pub in_graph : (x u : ℕ) → x < length s.lines → optional_at t.nodes.items x ≡ Some u
      → u < (graphs (job_task s x)).graph.size
  pub lasts : (x : ℕ) → x < length s.lines → IsLastFetch s x n (optional_at t.lasts.items x)
  pub gaps : (x : ℕ) → x < length s.lines → AreGapsOf s x n (gaps_of t.gaps.items x)
  pub sets : (set : ℕ) → set < s.system.platform.sets
      → IsTouch s set n (optional_at t.sets.items set)
  pub owner : IsTrailOwner s n t.owner
  pub ledger : IsLedger s graphs c n (map ledger_reload_of t.reloads.items)
