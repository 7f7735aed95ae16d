-- The evictor and the preemptor of each reload, and the ledger of a run.
use Rattle.std.proofs.Common.{◌≡◌, ◌⊎◌, ℕ, zero, suc, true, All, List, [], ◌∷◌, ◌++◌, Option, Some}
use Rattle.std.proofs.Common.{None, refl, sym, ◌∙◌, ap, subst, inl, inr, arith}
use Rattle.std.proofs.lemmas.Bool.{cases_Bool, false≢true}
use Rattle.crpd_base.proofs.Options.{none_some}
use Rattle.crpd_base.specs.declared.data.Certificate.{Certificate}
use Rattle.flow_watch.specs.Watch.{is_unbroken}
use Rattle.icache.specs.Accesses.{accesses}
use Rattle.icache.specs.Cache.{is_hit}
use Rattle.loop_regions.specs.TaskGraph.{TaskGraph}
use Rattle.evict_sets.specs.ListedPart.{listed_of, certified_task}
use Rattle.evict_sets.proofs.FullLaws.{hit_test_law}
use Rattle.preempt_machine.specs.Machine.{Job}
use Rattle.preempt_machine.specs.Step.{Fetch, Start, state, fetch_at}
use Rattle.run_account.specs.Causes.{ReloadHasCauses, RunHasLedger, AreListingsMet}
use Rattle.run_account.specs.Fetches.{job_after, fetched_set, HasCache}
use Rattle.run_account.specs.Ledger.{IsLedgerReload, LedgerReload, IsLedger}
use Rattle.run_account.specs.Nodes.{job_task, node_of_job}
use Rattle.run_account.specs.Reloads.{fetched_block, FetchesAt}
use Rattle.run_account.specs.Walks.{HasGraphs}
use Rattle.run_account.proofs.JobWalks.{address_at, counts_node, each_kept, fetcher_below}
use Rattle.run_account.proofs.JobWalks.{ledger_reload_is_own}
use Rattle.run_account.proofs.Ledgers.{no_ledger, ledger_same, ledger_more}
use Rattle.run_account.proofs.OwnFetches.{last_fetcher, last_fetcher_is}
use Rattle.run_account.proofs.Preemptors.{preemptor_of, preemptor_is}
use Rattle.run_account.proofs.ReloadLaws.{same_fetch}

pub reload_has_causes : ReloadHasCauses
reload_has_causes s graphs c n x f cached A S E =
    let R = ledger_reload_is_own s graphs c n x f A (λ k h. (S k h).states) E in
    let last = last_fetcher_is s (fetched_set s f) n R.time R.own R.reload.own.earlier
    R.reload.own.own.is R.reload.own.to_set in
    let p = preemptor_is s x n R.time f R.own cached R.reload in
    record {
      evictor = last_fetcher s (fetched_set s f) n;
      preemptor = preemptor_of s x (fetched_set s f) n;
      is = record {
        evicted = record {
          fetch = f;
          reload = E;
          time = last.time;
          last = last.fetch;
          is = record { last = last.last; by = last.by };
        };
        preempted = record {
          fetch = f;
          reload = E;
          from = p.a;
          time = p.v;
          until = p.c;
          is = p.is;
        };
        to_set = refl;
      };
    }

-- whether no watch of these jobs is broken
abbrev AreKept : List Job → Type 0
AreKept jobs = All (λ (job : Job). is_unbroken job.watch ≡ true) jobs

kept_front : (j : Job) (jobs : List Job) → is_unbroken j.watch ≡ true → AreKept jobs
    → AreKept (j ∷ jobs)
kept_front j jobs b h zero d l = b
kept_front j jobs b h (suc k) d l = h k d (omega (arith, l))

kept_or_not : (jobs : List Job) → AreKept jobs ⊎ (AreKept jobs → ⊥)
kept_or_not [] = inl (λ k d l. absurd (omega (arith, l)))
kept_or_not (j ∷ jobs) =
    elim (cases_Bool (is_unbroken j.watch)) [
      | inr b ↦ inr (λ h. false≢true (sym b ∙ h 0 j (omega arith)))
      | inl b ↦ elim (kept_or_not jobs) [
        | inl h ↦ inl (kept_front j jobs b h)
        | inr never ↦ inr (λ h. never (λ k d l. h (suc k) d (omega (arith, l))))
      ]
    ]

module _ (s : Start) (graphs : ℕ → TaskGraph) (c : Certificate) (cached : HasCache s)
    (A : HasGraphs s graphs) (S : AreListingsMet s graphs c) where
  -- a step with a reload, and one without
  abbrev SomeReload : ℕ → Type 0
  SomeReload n = (x : ℕ) × (f : Fetch) × IsLedgerReload s graphs c n x f

  abbrev NoReload : ℕ → Type 0
  NoReload n = (x : ℕ) (f : Fetch) → IsLedgerReload s graphs c n x f → ⊥

  -- a reload of a step is of the job that fetches there
  as_fetched : (n : ℕ) (f : Fetch) → fetch_at s n ≡ Some f → (x : ℕ) (g : Fetch)
      → IsLedgerReload s graphs c n x g → IsLedgerReload s graphs c n f.job f
  as_fetched n f at x g E =
      let same : g ≡ f = same_fetch s n g f E.fetches.is at in
      let who : x ≡ f.job = sym E.fetches.by ∙ ap (λ (k : Fetch). k.job) same in
      subst (λ k. IsLedgerReload s graphs c n f.job k) same
      (subst (λ k. IsLedgerReload s graphs c n k g) who E)

  by_fetch : (n : ℕ) (o : Option Fetch) → fetch_at s n ≡ o → SomeReload n ⊎ NoReload n
  by_fetch n None at = inr (λ x f E. none_some (sym at ∙ E.fetches.is))
  by_fetch n (Some f) at =
      elim (kept_or_not (state s n).jobs) [
        | inr never ↦ inr (λ x g E. never E.kept)
        | inl kept ↦
            let made : FetchesAt s f.job n f = record { is = at; by = refl } in
            let h = fetcher_below s f.job n f made in
            let t = graphs (job_task s f.job) in
            let N = address_at s graphs A f.job h n f made (each_kept s graphs n f.job h kept) in
            let T = hit_test_law t.graph (accesses s.system.platform t.places.address)
            (listed_of (certified_task c (job_task s f.job))) (A.graph f.job h).follows.graph
            (S f.job h).leaders in
            let test = T.1 (node_of_job t (job_after s n f.job)) N.at.below in
            elim (cases_Bool (T.0 (node_of_job t (job_after s n f.job)))) [
              | inr b ↦
                  inr (λ x g E. false≢true (sym b ∙ test.1
                  (counts_node s graphs A f.job h c n f (as_fetched n f at x g E))))
              | inl b ↦
                  elim (cases_Bool
                  (is_hit s.system.platform (state s n).cache (fetched_block s f))) [
                    | inl hit ↦
                        inr (λ x g E. false≢true (sym (as_fetched n f at x g E).misses ∙ hit))
                    | inr miss ↦
                        inl (
                          f.job,
                          f,
                          record {
                            kept = kept;
                            fetches = made;
                            node = node_of_job t (job_after s n f.job);
                            at = N.at;
                            counted = test.0 b;
                            misses = miss;
                          },
                        )
                  ]
            ]
      ]

  has_ledger : (n : ℕ) → (ledger : List LedgerReload) × IsLedger s graphs c n ledger
  has_ledger zero = ([], no_ledger s graphs c)
  has_ledger (suc n) =
      let L = has_ledger n in
      elim (by_fetch n (fetch_at s n) refl) [
        | inr none ↦ (L.0, ledger_same s graphs c n L.0 none L.1)
        | inl E ↦
            let C = reload_has_causes s graphs c n E.0 E.1 cached A S E.2 in
            let e : LedgerReload = record {
              job = E.0;
              set = fetched_set s E.1;
              time = n;
              evictor = C.evictor;
              preemptor = C.preemptor;
            } in
            (L.0 ++ e ∷ [], ledger_more s graphs c n L.0 e refl C.is L.1)
      ]

pub run_has_ledger : RunHasLedger
run_has_ledger s graphs c n cached A S = has_ledger s graphs c cached A S n
