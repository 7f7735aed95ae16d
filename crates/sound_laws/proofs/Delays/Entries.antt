-- Step 6, entries_within_useful: the entries of one preemptor are of one job, which resumed at one
-- node, and of different sets, each useful there.
use Rattle.std.proofs.Common.{◌≡◌, ℕ, ◌<◌, ◌≤◌, Bool, true, length, get_or, refl, sym}
use Rattle.std.proofs.Common.{◌∙◌, ap, subst, inl, inr, arith, count_by}
use Rattle.std.proofs.lemmas.Bool.{and_parts, cases_eq, cases_lt, eqb-true}
use Rattle.crpd_base.specs.declared.data.Certificate.{Certificate}
use Rattle.icache.specs.Accesses.{accesses}
use Rattle.loop_regions.specs.TaskGraph.{TaskGraph}
use Rattle.evict_sets.specs.Full.{FullUseful}
use Rattle.evict_sets.specs.ListedPart.{listed_of, certified_task}
use Rattle.preempt_machine.specs.Running.{job_id}
use Rattle.preempt_machine.specs.Step.{Start, state}
use Rattle.preempt_machine.proofs.Starting.{one_place}
use Rattle.run_account.specs.declared.told.Account.{Account}
use Rattle.run_account.specs.declared.told.Entry.{Entry}
use Rattle.run_account.specs.Account.{account_entry, HasAccountFacts}
use Rattle.run_account.specs.Fetches.{job_after, HasCache}
use Rattle.run_account.specs.Ledger.{LedgerReload, IsOfRun}
use Rattle.run_account.specs.Nodes.{job_task, IsNodeOfJob}
use Rattle.run_account.proofs.JobWalks.{fetcher_below}
use Rattle.run_account.proofs.Jobs.{jobs_length}
use Rattle.sound_laws.specs.Entries.{EntriesWithinUseful, is_preempted_by, UsefulThenPass}
use Rattle.sound_laws.proofs.Counts.Counting.{count_map, count_places, inject}
use Rattle.sound_laws.proofs.Windows.Releases.{count}

module _ (s : Start) (graphs : ℕ → TaskGraph) (c : Certificate) (n : ℕ) (a : Account)
    (cached : HasCache s) (H : HasAccountFacts s graphs c n a) (d : LedgerReload) where
  abbrev at : ℕ → LedgerReload
  at k = get_or H.ledger k d

  of_run : (k : ℕ) → k < length H.ledger → IsOfRun s graphs c (at k)
  of_run k l = (H.is_ledger.reloads k d l).1

  set_below : (k : ℕ) → k < length H.ledger → (at k).set < s.system.platform.sets
  set_below k l =
      let some = cached.some_set in
      subst (λ z. z < s.system.platform.sets) (of_run k l).to_set (omega (arith, some))

  -- entries with one preemptor have it at one place of the script
  preemptor_below : (k : ℕ) → k < length H.ledger → (at k).preemptor < length (state s 0).jobs
  preemptor_below k l =
      let q = (of_run k l).preempted.is.passes in
      let below = fetcher_below s (at k).preemptor q.at q.fetch q.by in
      omega (arith, below, jobs_length s 0)

  same_place : (j k : ℕ) → j < length H.ledger → k < length H.ledger
      → is_preempted_by (job_id (state s 0) (at k).preemptor) (account_entry s (at j)) ≡ true
      → (at j).preemptor ≡ (at k).preemptor
  same_place j k lj lk b =
      let both = and_parts _ _ b in
      one_place (state s 0) (job_id (state s 0) (at k).preemptor) (at j).preemptor (at k).preemptor
      (record {
        below = preemptor_below j lj;
        task = sym (eqb-true _ _ both.0);
        number = sym (eqb-true _ _ both.1);
      })
      (record { below = preemptor_below k lk; task = refl; number = refl })

  -- the set of an entry is useful at the node at which the job of another entry resumed, if the
  -- jobs and the steps are the same
  module _ (j k : ℕ) (lj : j < length H.ledger) (r : IsOfRun s graphs c (at k))
      (useful : ℕ → Bool) (pass : UsefulThenPass s graphs c (at k) r useful) where
    useful_by : (at j).job ≡ (at k).job → (of_run j lj).preempted.until ≡ r.preempted.until
        → useful (at j).set ≡ true
    useful_by job until =
        let h = H.facts.of_higher j d lj (of_run j lj) in
        pass h.node (at j).set
        (subst (λ x. IsNodeOfJob (graphs (job_task s x)) (job_after s r.preempted.until x) h.node)
        job
        (subst (λ m. IsNodeOfJob (graphs (job_task s (at j).job)) (job_after s m (at j).job) h.node)
        until h.at))
        (subst (λ x. FullUseful (graphs (job_task s x)).graph
        (accesses s.system.platform (graphs (job_task s x)).places.address)
        (listed_of (certified_task c (job_task s x))) h.node (at j).set) job h.carried)

    useful_there : k < length H.ledger → (at j).preemptor ≡ (at k).preemptor
        → useful (at j).set ≡ true
    useful_there lk p =
        elim (cases_lt j k) [
          | inl l ↦
              let two = H.facts.distinct j k d l lk in
              useful_by (two.job p) (two.until p (of_run j lj) r)
          | inr g ↦ elim (cases_eq j k) [
            | inl e ↦
                let h = H.facts.of_higher k d lk r in
                subst (λ m. useful (at m).set ≡ true) (sym e)
                (pass h.node (at k).set h.at h.carried)
            | inr ne ↦
                let two = H.facts.distinct k j d (omega arith) lj in
                useful_by (sym (two.job (sym p))) (sym (two.until (sym p) r (of_run j lj)))
          ]
        ]

  few : (k : ℕ) → k < length H.ledger → (r : IsOfRun s graphs c (at k)) → (useful : ℕ → Bool)
      → UsefulThenPass s graphs c (at k) r useful
      → count_by (is_preempted_by (job_id (state s 0) (at k).preemptor)) a.entries
      ≤ count useful s.system.platform.sets
  few k lk r useful pass =
      let p : Entry → Bool = is_preempted_by (job_id (state s 0) (at k).preemptor) in
      let entries = ap (count_by p) H.entries ∙ count_map p (account_entry s) H.ledger
      ∙ count_places (λ (e : LedgerReload). p (account_entry s e)) d H.ledger in
      let le = inject (λ j. p (account_entry s (at j))) (λ j. (at j).set) useful (length H.ledger)
      s.system.platform.sets (λ j l b. set_below j l)
      (λ j l b. useful_there j k l r useful pass lk (same_place j k l lk b))
      (λ j m l lm b e.
      let lj : j < length H.ledger = omega arith in
      (H.facts.distinct j m d l lm).set
      (same_place j k lj lk b ∙ sym (same_place m k lm lk e))) in
      omega (arith, entries, le)

pub entries_within_useful : EntriesWithinUseful
entries_within_useful s graphs c n a cached H k d l r useful pass =
    few s graphs c n a cached H d k l r useful pass
