-- Step 6, reload_comes_from_higher and preemptor_within_useful: a reload is caused by higher tasks,
-- and those of a job with one preemptor are at most the useful sets of one node.
use Rattle.std.proofs.Common.{◌≡◌, ℕ, ◌<◌, ◌≤◌, Bool, true, refl, sym, ◌∙◌, ap, subst, arith}
use Rattle.evict_sets.specs.Full.{FullUseful}
use Rattle.evict_sets.specs.ListedPart.{listed_of, certified_task}
use Rattle.cert_check.specs.JudgeInput.{accesses_of}
use Rattle.preempt_machine.specs.Step.{Fetch, state}
use Rattle.preempt_machine.proofs.Steps.{fetch_says}
use Rattle.run_account.specs.Fetches.{job_after, fetched_set}
use Rattle.run_account.specs.Ledger.{IsPreempted, IsOfRun, LedgerReload}
use Rattle.run_account.specs.Nodes.{job_task, IsNodeOfJob}
use Rattle.run_account.specs.Reloads.{FetchesAt}
use Rattle.run_account.proofs.ReloadFacts.{of_higher}
use Rattle.run_account.proofs.Gaps.{one_gap_per_preemptor}
use Rattle.run_account.proofs.JobWalks.{ledger_reload_is_own}
use Rattle.run_account.proofs.ReloadLaws.{one_reload_of}
use Rattle.sound_laws.specs.FromHigher.{IsFromHigher, ReloadComesFromHigher, PreemptorWithinUseful}
use Rattle.sound_laws.proofs.Windows.Releases.{count}
use Rattle.sound_laws.proofs.Counts.Counting.{inject}
use Rattle.sound_laws.proofs.Execution.Certified.{yes_meets}
use Rattle.sound_laws.proofs.Walks.CheckedRuns.{cached_run, runs_jobs}
use Rattle.sound_laws.proofs.Walks.CheckedRuns.{some_sets}
use Rattle.sound_laws.proofs.Reloads.Checked.{set_at}
use Rattle.sound_laws.proofs.Reloads.CertifiedRuns.{CertifiedRun, certified_run, by_parts}
use Rattle.sound_laws.proofs.Reloads.CertifiedRuns.{graphs_here, states_met, sets_met}

module _ (L : CertifiedRun) where
  open L use {start as s, set, graphs, certificate as c, in_range as R, code as C, run}

  -- a reload with its preemptor, and with its evictor
  abbrev of_run : (n x p : ℕ) (e : IsPreempted s graphs c n x p)
      → IsOfRun s graphs c (record {
        job = x;
        set = fetched_set s e.fetch;
        time = n;
        evictor = e.is.evictor.job;
        preemptor = p;
      })
  of_run n x p e =
      record {
        evicted = record {
          fetch = e.fetch;
          reload = e.reload;
          time = e.time;
          last = e.is.evictor;
          is = record { last = e.is.last; by = refl };
        };
        preempted = e;
        to_set = refl;
      }

  -- it is caused by higher tasks
  pub from_higher : (n x p : ℕ) (e : IsPreempted s graphs c n x p) → IsFromHigher s graphs c n x p e
  from_higher n x p e =
      let reload : LedgerReload = record {
        job = x;
        set = fetched_set s e.fetch;
        time = n;
        evictor = e.is.evictor.job;
        preemptor = p;
      } in
      let h = of_higher s graphs c (cached_run (by_parts L)) (graphs_here L)
      (states_met L) (sets_met L) reload
      (of_run n x p e) in
      record {
        evictor = h.evictor;
        preemptor = h.preemptor;
        not_after = h.not_after;
        evicts = h.evicts;
        in_set = h.in_set;
        node = h.node;
        at = h.at;
        carried = h.carried;
      }

pub reload_comes_from_higher : ReloadComesFromHigher
reload_comes_from_higher s set graphs c n x p A run e =
    from_higher
    (certified_run s set graphs c n A.in_range A.code (yes_meets set graphs c A.says) (runs_jobs run)
    e.reload.kept)
    n x p e

-- the reloads of a job with one preemptor
module _ (L : CertifiedRun) (x p first : ℕ) (test useful : ℕ → Bool)
    (e : IsPreempted L.start L.graphs L.certificate first x p)
    (each : (n : ℕ) → test n ≡ true
    → (n < L.horizon) × IsPreempted L.start L.graphs L.certificate n x p) where
  open L use {start as s, set, graphs, certificate as c, horizon, in_range as R, code as C, run}

  abbrev place_at : ℕ → ℕ
  place_at n = set_at (by_parts L) (job_after s n x).pc

  place_is : (n : ℕ) (f : Fetch) → FetchesAt s x n f → fetched_set s f ≡ place_at n
  place_is n f at =
      let m = fetch_says s.system (state s n) f at.is in
      ap (λ a. set_at (by_parts L) a) (m.at ∙ ap (λ y. (job_after s n y).pc) at.by)

  different : (n m : ℕ) → n < m → m < horizon → test n ≡ true → test m ≡ true
      → place_at n ≡ place_at m → ⊥
  different n m l k a b q =
      let E = (each n a).1 in
      let F = (each m b).1 in
      let r = ledger_reload_is_own s graphs c n x E.fetch (graphs_here L) (states_met L) E.reload in
      let t = ledger_reload_is_own s graphs c m x F.fetch (graphs_here L) (states_met L) F.reload in
      let same = one_reload_of s x n r.time E.fetch r.own m t.time F.fetch t.own p E.from E.time
      E.until F.from F.time F.until r.reload t.reload
      (place_is n E.fetch E.reload.fetches ∙ q ∙ sym (place_is m F.fetch F.reload.fetches))
      E.is F.is in
      omega arith

  few_useful : ((node z : ℕ) → IsNodeOfJob (graphs (job_task s x)) (job_after s e.until x) node
      → FullUseful (graphs (job_task s x)).graph
      (accesses_of s.system.platform (graphs (job_task s x)))
      (listed_of (certified_task c (job_task s x))) node z → useful z ≡ true)
      → count test horizon ≤ count useful s.system.platform.sets
  few_useful covers =
      inject test place_at useful horizon s.system.platform.sets
      (λ n l b. let q = some_sets (by_parts L) in omega arith)
      (λ n l b.
      let E = (each n b).1 in
      let from = from_higher L n x p E in
      let gap = one_gap_per_preemptor s x p n E.from E.time E.until first e.from e.time e.until
      E.fetch e.fetch E.is e.is in
      let here = subst
      (λ m. IsNodeOfJob (graphs (job_task s x)) (job_after s m x) from.node) gap.1 from.at in
      subst (λ z. useful z ≡ true) (place_is n E.fetch E.reload.fetches)
      (covers from.node (fetched_set s E.fetch) here from.carried))
      different

pub preemptor_within_useful : PreemptorWithinUseful
preemptor_within_useful s set graphs c until x p first test useful A run kept e each covers =
    few_useful
    (certified_run s set graphs c until A.in_range A.code (yes_meets set graphs c A.says)
    (runs_jobs run) kept)
    x p first test useful e each covers
