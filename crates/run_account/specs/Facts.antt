-- Facts of a ledger's reloads that hold of every run: which tasks cause them, and how few of them
-- one evictor or preemptor causes.
use Rattle.std.specs.Prelude.{◌≡◌, ◌≢◌, ◌⊎◌, ℕ, ◌<◌, true, IsTrue, List, length, All, AllPairs}
use Rattle.crpd_base.specs.declared.data.Certificate.{Certificate}
use Rattle.crpd_base.specs.Sets.{has}
use Rattle.icache.specs.Accesses.{accesses}
use Rattle.loop_regions.specs.TaskGraph.{TaskGraph}
use Rattle.evict_sets.specs.Full.{FullUseful}
use Rattle.evict_sets.specs.CacheClauses.{MeetsSets}
use Rattle.evict_sets.specs.ListedPart.{listed_of, certified_task}
use Rattle.preempt_machine.specs.Step.{before, Start, state}
use Rattle.run_account.specs.Fetches.{job_after, HasCache}
use Rattle.run_account.specs.Ledger.{LedgerReload, IsOfRun, IsLedger}
use Rattle.run_account.specs.Nodes.{job_task, IsNodeOfJob}
use Rattle.run_account.specs.Walks.{HasGraphs, AreStatesMet}

-- clauses 4 and 5 hold at each node of the graph of each job's task
abbrev pub AreSetsMet : Start → (ℕ → TaskGraph) → Certificate → Type 0
AreSetsMet s graphs c =
    (x : ℕ) → x < length s.lines →
    let t = graphs (job_task s x) in
    let p = certified_task c (job_task s x) in
    MeetsSets t.graph (accesses s.system.platform t.places.address) (listed_of p)
    (has p.part.evicting) (has p.part.useful)

-- a reload's evictor and preemptor are of higher tasks than its job, and the evictor does not come
-- after the preemptor. The reload's set is in the evictor's evicting set, in its own task's useful
-- set, and in the useful set of the full state of the node at which the job resumed: the node of
-- the second of the two fetches between which the evictor fetched
pub record IsOfHigher (s : Start) (graphs : ℕ → TaskGraph) (c : Certificate) (e : LedgerReload)
    (r : IsOfRun s graphs c e) : Type 0 where
  pub evictor : job_task s e.evictor < job_task s e.job
  pub preemptor : job_task s e.preemptor < job_task s e.job
  pub not_after : (e.evictor ≡ e.preemptor) ⊎ (before (state s 0).jobs e.evictor e.preemptor ≡ true)
  pub evicts : IsTrue (has (certified_task c (job_task s e.evictor)).part.evicting e.set)
  pub in_set : IsTrue (has (certified_task c (job_task s e.job)).part.useful e.set)
  pub node : ℕ
  pub at : IsNodeOfJob (graphs (job_task s e.job)) (job_after s r.preempted.until e.job) node
  pub carried : let t = graphs (job_task s e.job) in
      FullUseful t.graph (accesses s.system.platform t.places.address)
      (listed_of (certified_task c (job_task s e.job))) node e.set

-- two reloads do not have the same evictor and the same set; those of one preemptor are of one job,
-- resumed at one node, and do not have the same set
pub record AreDistinct (s : Start) (graphs : ℕ → TaskGraph) (c : Certificate)
    (d e : LedgerReload) : Type 0 where
  pub evictor : d.evictor ≡ e.evictor → d.set ≢ e.set
  pub job : d.preemptor ≡ e.preemptor → d.job ≡ e.job
  pub set : d.preemptor ≡ e.preemptor → d.set ≢ e.set
  pub until : d.preemptor ≡ e.preemptor → (q : IsOfRun s graphs c d) (r : IsOfRun s graphs c e)
      → q.preempted.until ≡ r.preempted.until

-- the facts of a ledger: of each of its reloads, and of any two
pub record HasFacts (s : Start) (graphs : ℕ → TaskGraph) (c : Certificate)
    (ledger : List LedgerReload) : Type 0 where
  pub of_higher : All (λ (e : LedgerReload). (r : IsOfRun s graphs c e) → IsOfHigher s graphs c e r)
      ledger
  pub distinct : AllPairs (AreDistinct s graphs c) ledger

-- the ledger of each run has these facts if clauses 3 to 5 hold
abbrev pub LedgerFacts : Type 0
LedgerFacts =
    (s : Start) (graphs : ℕ → TaskGraph) (c : Certificate) (n : ℕ) (ledger : List LedgerReload) →
    HasCache s → HasGraphs s graphs → AreStatesMet s graphs c → AreSetsMet s graphs c →
    IsLedger s graphs c n ledger → HasFacts s graphs c ledger
