-- The causes of a ledger's reloads, and that these are distinct.
use Rattle.std.proofs.Common.{◌≡◌, ◌≢◌, ◌⊎◌, ℕ, zero, suc, ◌<◌, ◌≤◌, true, List, [], ◌∷◌, ◌++◌}
use Rattle.std.proofs.Common.{length, get_or, Some, None, refl, sym, ◌∙◌, ap, subst, inl, inr}
use Rattle.std.proofs.Common.{arith, IsTrue}
use Rattle.std.proofs.lemmas.Bool.{cases_eq}
use Rattle.crpd_base.proofs.Options.{none_some}
use Rattle.crpd_base.specs.declared.data.Certificate.{Certificate}
use Rattle.crpd_base.specs.declared.data.TaskPart.{TaskPart}
use Rattle.crpd_base.specs.Sets.{has}
use Rattle.icache.specs.Accesses.{Accesses, accesses, first_access}
use Rattle.icache.specs.Cache.{block_of, set_of}
use Rattle.flat_graph.specs.Graph.{IsWalk, onto}
use Rattle.loop_regions.specs.TaskGraph.{TaskGraph}
use Rattle.evict_sets.specs.Full.{IsHit, FullUseful}
use Rattle.evict_sets.specs.CacheClauses.{MeetsSets}
use Rattle.evict_sets.specs.ListedPart.{listed_of, certified_task}
use Rattle.evict_sets.proofs.WalkLaws.{first_here, first_on, walk_carry_law}
use Rattle.preempt_machine.specs.Safe.{IsKept}
use Rattle.preempt_machine.specs.Step.{before, Fetch, Start, state}
use Rattle.run_account.specs.Facts.{AreSetsMet, IsOfHigher, AreDistinct, LedgerFacts}
use Rattle.run_account.specs.Fetches.{job_after, fetched_set, HasCache}
use Rattle.run_account.specs.Ledger.{LedgerReload, IsOfRun}
use Rattle.run_account.specs.Nodes.{job_task, node_of_job, IsNodeOfJob}
use Rattle.run_account.specs.Reloads.{FetchesAt, IsOwnReload, IsEvictor, IsPreemptor, RunsInGap}
use Rattle.run_account.specs.Walks.{fetched_nodes, HasGraphs, AreStatesMet, IsReloaded}
use Rattle.run_account.proofs.Gaps.{one_gap_per_preemptor}
use Rattle.run_account.proofs.JobWalks.{nodes_fetch, kept_one, each_kept, address_at, pc_of}
use Rattle.run_account.proofs.JobWalks.{counts_node, fetcher_below, ledger_reload_is_own}
use Rattle.run_account.proofs.JobWalks.{nodes_step}
use Rattle.run_account.proofs.OneLedger.{last_job}
use Rattle.run_account.proofs.ReloadLaws.{same_fetch, gap_is_of_higher, evictor_is_other}
use Rattle.run_account.proofs.ReloadLaws.{one_reload_per_evictor_and_set, one_job_of}
use Rattle.run_account.proofs.ReloadLaws.{one_reload_of}

-- nodes at the end
pub onto_last : (later : List ℕ) (z : ℕ) (w : List ℕ) → onto (later ++ z ∷ []) w ≡ z ∷ onto later w
onto_last [] z w = refl
onto_last (a ∷ later) z w = onto_last later z (a ∷ w)

pub none_then : (a : Accesses) (s : ℕ) (xs : List ℕ) (z : ℕ) → first_access a s xs ≡ None
    → first_access a s (xs ++ z ∷ []) ≡ first_access a s (z ∷ [])
none_then a s [] z e = refl
none_then a s (x ∷ xs) z e =
    elim (cases_eq (a.set x) s) [
      | inl q ↦ absurd (none_some (sym e ∙ first_here a s x xs q))
      | inr ne ↦
          first_on a s x (xs ++ z ∷ []) ne ∙ none_then a s xs z (sym (first_on a s x xs ne) ∙ e)
    ]

-- a kept state was kept before
pub kept_at : (s : Start) (graphs : ℕ → TaskGraph) (m n : ℕ) → m ≤ n → IsKept (state s n)
    → IsKept (state s m)
kept_at s graphs m zero l k =
    let e : m ≡ 0 = omega arith in subst (λ i. IsKept (state s i)) (sym e) k
kept_at s graphs m (suc n) l k =
    elim (cases_eq m (suc n)) [
      | inl e ↦ subst (λ i. IsKept (state s i)) (sym e) k
      | inr ne ↦ kept_at s graphs m n (omega arith) (kept_one s graphs n k)
    ]

module _ (s : Start) (graphs : ℕ → TaskGraph) (A : HasGraphs s graphs) (x : ℕ)
    (h : x < length s.lines) where
  abbrev tg : TaskGraph
  tg = graphs (job_task s x)

  abbrev acc : Accesses
  acc = accesses s.system.platform (graphs (job_task s x)).places.address

  -- the node of a fetch accesses its set
  pub set_fetched : (m : ℕ) (g : Fetch) → IsKept (state s m) → FetchesAt s x m g
      → acc.set (node_of_job tg (job_after s m x)) ≡ fetched_set s g
  set_fetched m g k f =
      let N = address_at s graphs A x h m g f (each_kept s graphs m x h k) in
      ap (λ a. set_of s.system.platform (block_of s.system.platform a))
      (N.at.address_is ∙ pc_of s graphs A x h m g f)

  -- the nodes fetched from step c on, none of which accesses the set
  pub record IsCarried (c target m : ℕ) : Type 0 where
    pub later : List ℕ
    pub nodes : fetched_nodes s graphs m x
        ≡ onto later (node_of_job tg (job_after s c x) ∷ fetched_nodes s graphs c x)
    pub none : first_access acc target (node_of_job tg (job_after s c x) ∷ later) ≡ None

  module _ (c n target : ℕ) (f : Fetch) (begins : FetchesAt s x c f)
      (kept : (m : ℕ) → m ≤ n → IsKept (state s m))
      (away : (m : ℕ) (g : Fetch) → c ≤ m → m < n → FetchesAt s x m g
      → fetched_set s g ≢ target) where
    carry_step : (m : ℕ) → c < m → m < n → IsCarried c target m → IsCarried c target (suc m)
    carry_step m l k is =
        elim (nodes_step s graphs m x) [
          | inl g ↦
              let ne : acc.set (node_of_job tg (job_after s m x)) ≢ target = λ q.
              away m g.0 (omega arith) k g.1
              (sym (set_fetched m g.0 (kept m (omega arith)) g.1) ∙ q) in
              record {
                later = is.later ++ node_of_job tg (job_after s m x) ∷ [];
                nodes =
                    nodes_fetch s graphs m x g.0 g.1
                    ∙ ap (λ w. node_of_job tg (job_after s m x) ∷ w) is.nodes
                    ∙ sym (onto_last is.later (node_of_job tg (job_after s m x))
                    (node_of_job tg (job_after s c x) ∷ fetched_nodes s graphs c x));
                none =
                    none_then acc target (node_of_job tg (job_after s c x) ∷ is.later)
                    (node_of_job tg (job_after s m x)) is.none
                    ∙ first_on acc target (node_of_job tg (job_after s m x)) [] ne;
              }
          | inr same ↦ record { later = is.later; nodes = same ∙ is.nodes; none = is.none }
        ]

    pub carry : (m : ℕ) → c < m → m ≤ n → IsCarried c target m
    carry zero l k = absurd (omega arith)
    carry (suc m) l k =
        elim (cases_eq m c) [
          | inl e ↦
              let ne : acc.set (node_of_job tg (job_after s c x)) ≢ target = λ q.
              away c f (omega arith) (omega arith) begins
              (sym (set_fetched c f (kept c (omega arith)) begins) ∙ q) in
              let first : IsCarried c target (suc c) = record {
                later = [];
                nodes = nodes_fetch s graphs c x f begins;
                none = first_on acc target (node_of_job tg (job_after s c x)) [] ne;
              } in
              subst (λ z. IsCarried c target (suc z)) (sym e) first
          | inr ne ↦ carry_step m (omega arith) (omega arith) (carry m (omega arith) (omega arith))
        ]

    -- so the set is in the useful set of the node of the fetch at c, where the job hits it by its
    -- state at step n
    pub carried_to : (cert : TaskPart)
        → MeetsSets tg.graph acc (listed_of cert) (has cert.part.evicting) (has cert.part.useful)
        → c ≤ n → (g : Fetch) → FetchesAt s x n g → fetched_set s g ≡ target
        → IsHit tg.graph acc (listed_of cert) (node_of_job tg (job_after s n x))
        → FullUseful tg.graph acc (listed_of cert) (node_of_job tg (job_after s c x)) target
    carried_to cert M l g ends to_set hit =
        let k = kept n (omega arith) in
        let N = address_at s graphs A x h n g ends (each_kept s graphs n x h k) in
        let G = (A.graph x h).follows.graph in
        let z_set : acc.set (node_of_job tg (job_after s n x)) ≡ target =
        set_fetched n g k ends ∙ to_set in
        elim (cases_eq c n) [
          | inl e ↦
              subst (λ m. FullUseful tg.graph acc (listed_of cert)
              (node_of_job tg (job_after s m x)) target) (sym e)
              (walk_carry_law tg.graph acc (listed_of cert) (node_of_job tg (job_after s n x))
              target (node_of_job tg (job_after s n x)) (fetched_nodes s graphs n x) [] G M.useful
              N.walk (first_here acc target (node_of_job tg (job_after s n x)) [] z_set) hit)
          | inr ne ↦
              let is = carry n (omega arith) (omega arith) in
              let all : node_of_job tg (job_after s n x) ∷ fetched_nodes s graphs n x
              ≡ onto (is.later ++ node_of_job tg (job_after s n x) ∷ [])
              (node_of_job tg (job_after s c x) ∷ fetched_nodes s graphs c x) =
              ap (λ w. node_of_job tg (job_after s n x) ∷ w) is.nodes
              ∙ sym (onto_last is.later (node_of_job tg (job_after s n x))
              (node_of_job tg (job_after s c x) ∷ fetched_nodes s graphs c x)) in
              let first : first_access acc target
              (node_of_job tg (job_after s c x)
              ∷ (is.later ++ node_of_job tg (job_after s n x) ∷ []))
              ≡ Some (node_of_job tg (job_after s n x)) =
              none_then acc target (node_of_job tg (job_after s c x) ∷ is.later)
              (node_of_job tg (job_after s n x)) is.none
              ∙ first_here acc target (node_of_job tg (job_after s n x)) [] z_set in
              walk_carry_law tg.graph acc (listed_of cert) (node_of_job tg (job_after s c x)) target
              (node_of_job tg (job_after s n x)) (fetched_nodes s graphs c x)
              (is.later ++ node_of_job tg (job_after s n x) ∷ []) G M.useful
              (subst (λ w. IsWalk tg.graph w) all N.walk) first hit
        ]

module _ (s : Start) (graphs : ℕ → TaskGraph) (c : Certificate)
    (cached : HasCache s) (A : HasGraphs s graphs)
    (S : AreStatesMet s graphs c) (M : AreSetsMet s graphs c) where
  -- a ledger's reload is its job's own
  reload_of : (e : LedgerReload) (r : IsOfRun s graphs c e)
      → IsReloaded s e.job e.time r.evicted.fetch
  reload_of e r = ledger_reload_is_own s graphs c e.time e.job r.evicted.fetch A S r.evicted.reload

  fetch_of : (e : LedgerReload) (r : IsOfRun s graphs c e) → r.preempted.fetch ≡ r.evicted.fetch
  fetch_of e r =
      same_fetch s e.time r.preempted.fetch r.evicted.fetch r.preempted.reload.fetches.is
      r.evicted.reload.fetches.is

  -- its preemptor, by the fetch of its evictor
  preemptor_of : (e : LedgerReload) (r : IsOfRun s graphs c e)
      → IsPreemptor s e.job e.preemptor e.time r.preempted.from r.preempted.time r.preempted.until
      r.evicted.fetch
  preemptor_of e r =
      subst (λ f. IsPreemptor s e.job e.preemptor e.time r.preempted.from r.preempted.time
      r.preempted.until f) (fetch_of e r) r.preempted.is

  -- what causes it
  module _ (e : LedgerReload) (r : IsOfRun s graphs c e) where
    abbrev E : IsReloaded s e.job e.time r.evicted.fetch
    E = reload_of e r

    abbrev P : IsPreemptor s e.job e.preemptor e.time r.preempted.from r.preempted.time
        r.preempted.until r.evicted.fetch
    P = preemptor_of e r

    below : e.job < length s.lines
    below = fetcher_below s e.job e.time r.evicted.fetch r.evicted.reload.fetches

    kept : (m : ℕ) → m ≤ e.time → IsKept (state s m)
    kept m l = kept_at s graphs m e.time l r.evicted.reload.kept

    evictor_passes : RunsInGap s e.job e.evictor E.time e.time
    evictor_passes =
        let O = evictor_is_other s e.job e.time E.time r.evicted.fetch E.own e.evictor
        r.evicted.time r.evicted.last cached E.reload r.evicted.is in
        gap_is_of_higher s e.job e.evictor E.time r.evicted.time e.time E.own r.evicted.last
        r.evicted.fetch O.since r.evicted.is.last.earlier E.reload.own.own
        (record { is = r.evicted.is.last.is; by = r.evicted.is.by }) E.reload.fetches O.other

    preemptor_passes : RunsInGap s e.job e.preemptor r.preempted.from r.preempted.until
    preemptor_passes =
        gap_is_of_higher s e.job e.preemptor r.preempted.from P.passes.at r.preempted.until
        P.lies.from P.passes.fetch P.lies.to P.passes.after P.passes.until P.lies.gap.begins
        P.passes.by P.lies.gap.ends P.passes.other

    -- the last fetch of one is that of the other
    same_evictor : P.evictor.job ≡ e.evictor
    same_evictor =
        ap (λ (f : Fetch). f.job)
        (last_job s (fetched_set s r.evicted.fetch) e.time r.preempted.time r.evicted.time P.evictor
        r.evicted.last P.last r.evicted.is.last) ∙ r.evicted.is.by

    not_after : (e.evictor ≡ e.preemptor) ⊎ (before (state s 0).jobs e.evictor e.preemptor ≡ true)
    not_after =
        subst (λ y. (y ≡ e.preemptor) ⊎ (before (state s 0).jobs y e.preemptor ≡ true)) same_evictor
        (P.passes.latest r.preempted.time P.evictor P.lies.gap.after P.lies.gap.until P.last.is)

    evicts : IsTrue (has (certified_task c (job_task s e.evictor)).part.evicting e.set)
    evicts =
        let y = e.evictor in
        let v = r.evicted.time in
        let made : FetchesAt s e.evictor r.evicted.time r.evicted.last = record {
          is = r.evicted.is.last.is;
          by = r.evicted.is.by;
        } in
        let hy = fetcher_below s e.evictor r.evicted.time r.evicted.last made in
        let early = r.evicted.is.last.earlier in
        let k = kept r.evicted.time (omega arith) in
        let N = address_at s graphs A e.evictor hy r.evicted.time r.evicted.last made
        (each_kept s graphs r.evicted.time e.evictor hy k) in
        let own =
        ((M e.evictor hy).sets
        (node_of_job (graphs (job_task s e.evictor)) (job_after s r.evicted.time e.evictor))
        N.at.below).own in
        subst (λ z. IsTrue (has (certified_task c (job_task s e.evictor)).part.evicting z))
        (set_fetched s graphs A e.evictor hy r.evicted.time r.evicted.last k made
        ∙ r.evicted.is.last.to_set ∙ r.to_set) own

    -- the job does not fetch to the set from the gap's end until the reload: so its end comes by
    -- the reload's step
    away : (m : ℕ) (g : Fetch) → r.preempted.until ≤ m → m < e.time → FetchesAt s e.job m g
        → fetched_set s g ≢ e.set
    away m g l k f q =
        let u = P.lies.gap.until in P.last.last m g (omega arith) k f.is (q ∙ sym r.to_set)

    carried : FullUseful (graphs (job_task s e.job)).graph
        (accesses s.system.platform (graphs (job_task s e.job)).places.address)
        (listed_of (certified_task c (job_task s e.job)))
        (node_of_job (graphs (job_task s e.job)) (job_after s r.preempted.until e.job)) e.set
    carried =
        carried_to s graphs A e.job below r.preempted.until e.time e.set P.lies.to P.lies.gap.ends
        kept away (certified_task c (job_task s e.job)) (M e.job below) P.in_time r.evicted.fetch
        r.evicted.reload.fetches r.to_set
        (counts_node s graphs A e.job below c e.time r.evicted.fetch r.evicted.reload)

    at_node : IsNodeOfJob (graphs (job_task s e.job)) (job_after s r.preempted.until e.job)
        (node_of_job (graphs (job_task s e.job)) (job_after s r.preempted.until e.job))
    at_node =
        let k = kept r.preempted.until P.in_time in
        (address_at s graphs A e.job below r.preempted.until P.lies.to P.lies.gap.ends
        (each_kept s graphs r.preempted.until e.job below k)).at

    pub of_higher : IsOfHigher s graphs c e r
    of_higher =
        record {
          evictor = evictor_passes.higher;
          preemptor = preemptor_passes.higher;
          not_after = not_after;
          evicts = evicts;
          in_set =
              ((M e.job below).sets
              (node_of_job (graphs (job_task s e.job)) (job_after s r.preempted.until e.job))
              at_node.below).all e.set carried;
          node = node_of_job (graphs (job_task s e.job)) (job_after s r.preempted.until e.job);
          at = at_node;
          carried = carried;
        }

  -- of two reloads
  module _ (d e : LedgerReload) (q : IsOfRun s graphs c d) (r : IsOfRun s graphs c e)
      (earlier : d.time < e.time) where
    same_set : d.set ≡ e.set → fetched_set s q.evicted.fetch ≡ fetched_set s r.evicted.fetch
    same_set k = q.to_set ∙ k ∙ sym r.to_set

    distinct_evictor : d.evictor ≡ e.evictor → d.set ≢ e.set
    distinct_evictor y k =
        let D = reload_of d q in
        let E = reload_of e r in
        let evictor : IsEvictor s d.evictor e.time r.evicted.time r.evicted.fetch r.evicted.last =
        subst (λ i. IsEvictor s i e.time r.evicted.time r.evicted.fetch r.evicted.last)
        (sym y) r.evicted.is in
        let same = one_reload_per_evictor_and_set s d.job d.time D.time q.evicted.fetch D.own e.job
        e.time E.time r.evicted.fetch E.own d.evictor q.evicted.time r.evicted.time q.evicted.last
        r.evicted.last cached
        D.reload E.reload (same_set k) q.evicted.is evictor in
        omega arith

    -- the second reload's preemptor, as the first one's
    by_first : d.preemptor ≡ e.preemptor
        → IsPreemptor s e.job d.preemptor e.time r.preempted.from r.preempted.time r.preempted.until
        r.evicted.fetch
    by_first p =
        subst (λ i. IsPreemptor s e.job i e.time r.preempted.from r.preempted.time r.preempted.until
        r.evicted.fetch) (sym p) (preemptor_of e r)

    one_job : d.preemptor ≡ e.preemptor → d.job ≡ e.job
    one_job p =
        one_job_of s d.job d.time q.evicted.fetch e.job e.time r.evicted.fetch d.preemptor
        q.preempted.from q.preempted.time q.preempted.until r.preempted.from r.preempted.time
        r.preempted.until (preemptor_of d q) (by_first p)

    distinct_preemptor : d.preemptor ≡ e.preemptor → d.set ≢ e.set
    distinct_preemptor p k =
        let D = reload_of d q in
        let E = reload_of e r in
        let job = one_job p in
        let again : IsOwnReload s d.job e.time E.time r.evicted.fetch E.own =
        subst (λ i. IsOwnReload s i e.time E.time r.evicted.fetch E.own) (sym job) E.reload in
        let preemptor : IsPreemptor s d.job d.preemptor e.time r.preempted.from r.preempted.time
        r.preempted.until r.evicted.fetch =
        subst (λ i. IsPreemptor s i d.preemptor e.time r.preempted.from r.preempted.time
        r.preempted.until r.evicted.fetch) (sym job) (by_first p) in
        let same = one_reload_of s d.job d.time D.time q.evicted.fetch D.own e.time E.time
        r.evicted.fetch E.own d.preemptor q.preempted.from q.preempted.time q.preempted.until
        r.preempted.from r.preempted.time r.preempted.until D.reload again (same_set k)
        (preemptor_of d q) preemptor in
        omega arith

    pub one_until : d.preemptor ≡ e.preemptor → q.preempted.until ≡ r.preempted.until
    one_until p =
        let job = one_job p in
        let preemptor : IsPreemptor s d.job d.preemptor e.time r.preempted.from r.preempted.time
        r.preempted.until r.evicted.fetch =
        subst (λ i. IsPreemptor s i d.preemptor e.time r.preempted.from r.preempted.time
        r.preempted.until r.evicted.fetch) (sym job) (by_first p) in
        (one_gap_per_preemptor s d.job d.preemptor d.time q.preempted.from q.preempted.time
        q.preempted.until e.time r.preempted.from r.preempted.time r.preempted.until q.evicted.fetch
        r.evicted.fetch (preemptor_of d q) preemptor).1

  pub distinct : (d e : LedgerReload) → IsOfRun s graphs c d → IsOfRun s graphs c e
      → d.time < e.time → AreDistinct s graphs c d e
  distinct d e q r l =
      record {
        evictor = distinct_evictor d e q r l;
        job = one_job d e q r l;
        set = distinct_preemptor d e q r l;
        until = λ p q' r'. one_until d e q' r' l p;
      }

pub ledger_facts : LedgerFacts
ledger_facts s graphs c n ledger cached A S M L =
    record {
      of_higher = λ k e l r. of_higher s graphs c cached A S M (get_or ledger k e) r;
      distinct = λ i j d l m.
          let early : i < length ledger = omega arith in
          distinct s graphs c cached A S M (get_or ledger i d) (get_or ledger j d)
          (L.reloads i d early).1 (L.reloads j d m).1 (L.in_order i j d l m);
    }
