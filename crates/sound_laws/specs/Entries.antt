-- How many reloads of an account one preemptor causes.
use Rattle.std.specs.Prelude.{◌≡◌, ℕ, ◌≤◌, ◌==◌, ◌&&◌, Bool, true, All}
use Rattle.std.specs.List.{count_by}
use Rattle.crpd_base.specs.declared.data.Certificate.{Certificate}
use Rattle.crpd_base.specs.declared.data.JobId.{JobId}
use Rattle.icache.specs.Accesses.{accesses}
use Rattle.loop_regions.specs.TaskGraph.{TaskGraph}
use Rattle.evict_sets.specs.Full.{FullUseful}
use Rattle.evict_sets.specs.ListedPart.{listed_of, certified_task}
use Rattle.preempt_machine.specs.Running.{job_id}
use Rattle.preempt_machine.specs.Step.{Start, state}
use Rattle.run_account.specs.declared.told.Account.{Account}
use Rattle.run_account.specs.declared.told.Entry.{Entry}
use Rattle.run_account.specs.Account.{HasAccountFacts}
use Rattle.run_account.specs.Fetches.{job_after, HasCache}
use Rattle.run_account.specs.Ledger.{LedgerReload, IsOfRun}
use Rattle.run_account.specs.Nodes.{job_task, IsNodeOfJob}
use Rattle.sound_laws.specs.StepTests.{count_below}

-- whether a job is the preemptor of an entry
abbrev pub is_preempted_by : JobId → Entry → Bool
is_preempted_by p e = (e.preemptor.task.0 == p.task.0) && (e.preemptor.number == p.number)

-- the sets in the useful set of the node at which the job of a reload resumed pass a test
abbrev pub UsefulThenPass : (s : Start) (graphs : ℕ → TaskGraph) (c : Certificate)
    (e : LedgerReload) → IsOfRun s graphs c e → (ℕ → Bool) → Type 0
UsefulThenPass s graphs c e r useful =
    (node z : ℕ) →
    let t = graphs (job_task s e.job) in
    IsNodeOfJob t (job_after s r.preempted.until e.job) node →
    FullUseful t.graph (accesses s.system.platform t.places.address)
    (listed_of (certified_task c (job_task s e.job))) node z → useful z ≡ true

-- for each reload of an account with the facts of its reloads: the entries with the same preemptor
-- are at most as many as the sets that are useful at the node at which its job resumed
abbrev pub EntriesWithinUseful : Type 0
EntriesWithinUseful =
    (s : Start) (graphs : ℕ → TaskGraph) (c : Certificate) (n : ℕ) (a : Account) → HasCache s →
    (H : HasAccountFacts s graphs c n a) →
    All (λ (e : LedgerReload). (r : IsOfRun s graphs c e) (useful : ℕ → Bool) →
    UsefulThenPass s graphs c e r useful →
    count_by (is_preempted_by (job_id (state s 0) e.preemptor)) a.entries
    ≤ count_below useful s.system.platform.sets) H.ledger
