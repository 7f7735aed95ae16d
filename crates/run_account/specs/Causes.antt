-- Every reload of a run has an evictor and a preemptor, so a run has a ledger.
use Rattle.std.specs.Prelude.{ℕ, ◌<◌, List, length}
use Rattle.crpd_base.specs.declared.data.Certificate.{Certificate}
use Rattle.icache.specs.Accesses.{accesses}
use Rattle.loop_regions.specs.TaskGraph.{TaskGraph}
use Rattle.evict_sets.specs.CacheClauses.{MeetsListing}
use Rattle.evict_sets.specs.ListedPart.{listed_of, certified_task}
use Rattle.preempt_machine.specs.Step.{Fetch, Start}
use Rattle.run_account.specs.Fetches.{fetched_set, HasCache}
use Rattle.run_account.specs.Ledger.{IsLedgerReload, LedgerReload, IsOfRun, IsLedger}
use Rattle.run_account.specs.Nodes.{job_task}
use Rattle.run_account.specs.Walks.{HasGraphs}

-- the listing of each script job's task satisfies the clauses on which full states depend
abbrev pub AreListingsMet : Start → (ℕ → TaskGraph) → Certificate → Type 0
AreListingsMet s graphs c =
    (x : ℕ) → x < length s.lines →
    let t = graphs (job_task s x) in
    let p = certified_task c (job_task s x) in
    MeetsListing t.graph (accesses s.system.platform t.places.address) (listed_of p)

-- a reload of job x at step n, with an evictor and a preemptor, is one of the ledger
pub record HasCauses (s : Start) (graphs : ℕ → TaskGraph) (c : Certificate) (n x : ℕ)
    (f : Fetch) : Type 0 where
  pub evictor : ℕ
  pub preemptor : ℕ
  pub is : IsOfRun s graphs c
      (record {
        job = x;
        set = fetched_set s f;
        time = n;
        evictor = evictor;
        preemptor = preemptor;
      })

-- each reload has both, in every run, legal or not, kept or not
abbrev pub ReloadHasCauses : Type 0
ReloadHasCauses =
    (s : Start) (graphs : ℕ → TaskGraph) (c : Certificate) (n x : ℕ) (f : Fetch) →
    HasCache s → HasGraphs s graphs → AreListingsMet s graphs c →
    IsLedgerReload s graphs c n x f → HasCauses s graphs c n x f

-- a run has a ledger of its first n steps
abbrev pub RunHasLedger : Type 0
RunHasLedger =
    (s : Start) (graphs : ℕ → TaskGraph) (c : Certificate) (n : ℕ) →
    HasCache s → HasGraphs s graphs → AreListingsMet s graphs c →
    (ledger : List LedgerReload) × IsLedger s graphs c n ledger
