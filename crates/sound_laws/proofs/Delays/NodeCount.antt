-- For step 6: the reloads of one preemptor are at most the useful and evicted sets of one node. By
-- this a delay covers the reloads of a window.
use Rattle.std.proofs.Common.{◌≡◌, ◌≢◌, ℕ, ◌<◌, ◌≤◌, Bool, true, length, List, ◌∷◌, None, sym}
use Rattle.std.proofs.Common.{◌∙◌, ap, subst, inl, inr, arith}
use Rattle.std.specs.Prelude.{unwrap_or}
use Rattle.std.proofs.lemmas.Bool.{cases_Bool, cases_eq, false≢true, and_parts}
use Rattle.icache.specs.Accesses.{Accesses, accesses, first_access}
use Rattle.flat_graph.specs.Graph.{IsWalk}
use Rattle.delay_count.specs.Gamma.{evicted_from, shared_count}
use Rattle.preempt_machine.specs.Step.{Fetch, is_owner, state}
use Rattle.preempt_machine.specs.Safe.{IsKept}
use Rattle.run_account.specs.Fetches.{job_after, fetched_set}
use Rattle.run_account.specs.Nodes.{job_task, plan_at, node_of_job}
use Rattle.run_account.specs.Reloads.{FetchesAt, IsPreemptor}
use Rattle.run_account.specs.Walks.{fetched_nodes, HasGraphs}
use Rattle.run_account.proofs.Gaps.{one_gap_per_preemptor}
use Rattle.run_account.proofs.JobWalks.{address_at}
use Rattle.run_account.proofs.LastBelow.{some_below, found_below, found_is, some_from}
use Rattle.run_account.proofs.OwnFetches.{own_candidate}
use Rattle.run_account.proofs.Owners.{candidate_at, owns_true}
use Rattle.run_account.proofs.ReloadFacts.{carry, set_fetched, kept_at as kept_then}
use Rattle.sound_laws.specs.Walks.{before_of}
use Rattle.sound_laws.specs.PartLaws.{PartReloadsAreUseful}
use Rattle.sound_laws.proofs.Windows.Busy.{task_at}
use Rattle.sound_laws.proofs.Windows.Releases.{count, count_none}
use Rattle.sound_laws.proofs.Walks.Stands.{walk_node}
use Rattle.sound_laws.proofs.Walks.Walked.{before_fresh}
use Rattle.sound_laws.proofs.Walks.KeptWalks.{ok, walking}
use Rattle.sound_laws.proofs.Walks.CheckedRuns.{CheckedRun, parts, walks_at, sound_at, below_tasks}
use Rattle.sound_laws.proofs.Walks.CheckedRuns.{is_opened, kept_at, checked_run, kept_run, runs_jobs}
use Rattle.sound_laws.proofs.Reloads.OwnFetches.{has_graphs}
use Rattle.sound_laws.proofs.Reloads.Checked.{is_reload, victim, cached, preemptor_at, reload_early}
use Rattle.sound_laws.proofs.Reloads.Checked.{IsCheckedReload, reload_at, reload_says, set_at}
use Rattle.sound_laws.proofs.Delays.WindowReloads.{preempted, one_job, sets_within}
use Rattle.sound_laws.proofs.Delays.WindowReloads.{OnePreemptorWithin}

module _ (K : CheckedRun) where
  open K use {start as s, set, graphs, walks, horizon, in_range as R, code as C, run, kept}

  graphs_at : HasGraphs s graphs
  graphs_at = has_graphs s set graphs R C run.tasks

  -- a reload that is made after a fetch of its job: the set is useful at the node of that fetch if
  -- the job did not fetch to it in between
  module _ (n : ℕ) (e : IsCheckedReload K n) (early : n ≤ horizon) (c : ℕ) (f : Fetch)
      (begins : FetchesAt s (victim K n) c f) (by : c ≤ n)
      (away : (m : ℕ) (g : Fetch) → c ≤ m → m < n → FetchesAt s (victim K n) m g
      → fetched_set s g ≢ cached K n) where
    abbrev x : ℕ
    x = victim K n

    abbrev acc : Accesses
    acc = accesses s.system.platform (graphs (job_task s (victim K n))).places.address

    abbrev node : ℕ → ℕ
    node m = node_of_job (graphs (job_task s (victim K n))) (job_after s m (victim K n))

    abbrev nodes : ℕ → List ℕ
    nodes m = fetched_nodes s graphs m (victim K n)

    all_kept : (m : ℕ) → m ≤ n → IsKept (state s m)
    all_kept m l = kept_then s graphs m horizon (omega arith) kept

    walk : IsWalk (graphs (job_task s (victim K n))).graph (node n ∷ nodes n)
    walk =
        (address_at s graphs graphs_at (victim K n) e.below n e.fetch e.reload.fetches
        (kept_at K n (victim K n) early e.below)).walk

    counts : (walks_at K (victim K n)).counts (node n ∷ nodes n) ≡ true
    counts =
        subst (λ b. (walks_at K (victim K n)).counts (node n ∷ b) ≡ true)
        (before_fresh (job_after s n (victim K n)) (nodes n) e.left) e.counted

    to_set : acc.set (node n) ≡ cached K n
    to_set =
        set_fetched s graphs graphs_at (victim K n) e.below n e.fetch (all_kept n (omega arith))
        e.reload.fetches ∙ e.set_same

    here : (walks_at K (victim K n)).useful (node n) (acc.set (node n)) ≡ true
    here = (sound_at K (victim K n) e.below).useful_here (node n) (nodes n) walk counts

    since : c < n → (walks_at K (victim K n)).useful (node c) (acc.set (node n)) ≡ true
    since l =
        let is = carry s graphs graphs_at (victim K n) e.below c n (cached K n) f begins all_kept
        away n l (omega arith) in
        let none : first_access acc (acc.set (node n)) (node c ∷ is.later) ≡ None =
        subst (λ z. first_access acc z (node c ∷ is.later) ≡ None) (sym to_set) is.none in
        (sound_at K (victim K n) e.below).useful_since (node c) (node n) (nodes c) is.later
        (subst (λ b. IsWalk (graphs (job_task s (victim K n))).graph (node n ∷ b)) is.nodes walk)
        (subst (λ b. (walks_at K (victim K n)).counts (node n ∷ b) ≡ true) is.nodes counts)
        none

    pub useful_then : (walks_at K (victim K n)).useful (node c) (cached K n) ≡ true
    useful_then =
        subst (λ z. (walks_at K (victim K n)).useful (node c) z ≡ true) to_set
        (elim (cases_eq c n) [
          | inl q ↦ subst (λ m. (walks_at K (victim K n)).useful (node m) (acc.set (node n)) ≡ true)
              (sym q) here
          | inr ne ↦ since (omega arith)
        ])

  -- the node at which the job of a reload resumed after the gap
  abbrev resumed_at : (n : ℕ) → is_reload K n ≡ true → ℕ
  resumed_at n b =
      node_of_job (graphs (job_task s (victim K n)))
      (job_after s (preempted K n (reload_says K n b)).c (victim K n))

  -- the reload's set is useful there
  pub useful_resumed : (n : ℕ) (b : is_reload K n ≡ true)
      → (walks_at K (victim K n)).useful (resumed_at n b) (cached K n) ≡ true
  useful_resumed n b =
      let e = reload_says K n b in
      let w = preempted K n (reload_says K n b) in
      let l = reload_early K n b in
      let gap = w.is.lies.gap.until in
      useful_then n (reload_says K n b) (omega arith) (preempted K n (reload_says K n b)).c
      w.is.lies.to w.is.lies.gap.ends w.is.in_time
      (λ m g from before made q.
      w.is.last.last m g (omega (arith, from, gap)) before made.is (q ∙ sym e.set_same))

  resumed_below : (n : ℕ) (b : is_reload K n ≡ true)
      → resumed_at n b < (graphs (job_task s (victim K n))).graph.size
  resumed_below n b =
      let e = reload_says K n b in
      let w = preempted K n (reload_says K n b) in
      let mine = own_candidate s (victim K n) w.c w.is.lies.to w.is.lies.gap.ends in
      let in_time = w.is.in_time in
      let early = reload_early K n b in
      let k = kept_at K w.c (victim K n) (omega (arith, in_time, early)) e.below in
      let W = (walking s set graphs R C run.tasks w.c (victim K n) e.below k).on_walk
      (is_opened K w.c (victim K n) mine) in
      walk_node s.system (plan_at s (victim K n)) (graphs (job_task s (victim K n)))
      (ok s set graphs R C run.tasks (victim K n) e.below) C.map (resumed_at n b)
      (before_of (job_after s w.c (victim K n)) (fetched_nodes s graphs w.c (victim K n)))
      W.walked.walk

  -- the reloads of one preemptor are at one node
  one_resumed : (n m : ℕ) (b : is_reload K n ≡ true) (d : is_reload K m ≡ true)
      → preemptor_at K n ≡ preemptor_at K m → resumed_at n b ≡ resumed_at m d
  one_resumed n m b d q =
      let e = reload_says K n b in
      let f = reload_says K m d in
      let v = preempted K n (reload_says K n b) in
      let w = preempted K m (reload_says K m d) in
      let same = one_job K n m b d q in
      let is : IsPreemptor s (victim K n) (preemptor_at K n) m w.a w.v w.c f.fetch =
      subst (λ p. IsPreemptor s (victim K n) p m w.a w.v w.c f.fetch) (sym q)
      (subst (λ z. IsPreemptor s z (preemptor_at K m) m w.a w.v w.c f.fetch) (sym same) w.is) in
      let gap = one_gap_per_preemptor s (victim K n) (preemptor_at K n) n v.a v.v v.c m w.a w.v w.c
      e.fetch f.fetch v.is is in
      ap (λ i. node_of_job (graphs (job_task s (victim K n))) (job_after s i (victim K n))) gap.1
      ∙ ap (λ z. node_of_job (graphs (job_task s z)) (job_after s w.c z)) same

  -- with a bound on how many of the useful sets of a node are evicted, the reloads of one preemptor
  -- and one task are within the bound
  pub node_within : (most : ℕ → ℕ → ℕ)
      → ((j k y : ℕ) → k < length set.tasks → y < (graphs k).graph.size
      → shared_count ((walks k).useful y) (evicted_from (parts K) j) 512 ≤ most j k)
      → OnePreemptorWithin K most
  node_within most bounds p k to test each =
      elim (cases_Bool (some_below test to)) [
        | inr none ↦
            let zero_count = count_none test to (λ n l. elim (cases_Bool (test n)) [
              | inr b ↦ b
              | inl b ↦ absurd (false≢true (sym none ∙ some_from test to n l b))
            ]) in
            omega (arith, zero_count)
        | inl some ↦ by_first p k to test most bounds each (found_below test to)
            (found_is test to some).1
      ]
    where
      by_first : (p k to : ℕ) (test : ℕ → Bool) (most : ℕ → ℕ → ℕ)
          → ((j k y : ℕ) → k < length set.tasks → y < (graphs k).graph.size
          → shared_count ((walks k).useful y) (evicted_from (parts K) j) 512 ≤ most j k)
          → ((n : ℕ) → test n ≡ true → (is_reload K n ≡ true) × (preemptor_at K n ≡ p)
          × (task_at s (victim K n) ≡ k)) → (first : ℕ) → test first ≡ true
          → count test to ≤ most (task_at s p) k
      by_first p k to test most bounds each first passes =
          let F = each first passes in
          let below : k < length set.tasks =
          subst (λ i. i < length set.tasks) F.2
          (below_tasks K (victim K first) (reload_says K first F.0).below) in
          let node : resumed_at first F.0 < (graphs k).graph.size =
          subst (λ i. resumed_at first F.0 < (graphs i).graph.size) F.2
          (resumed_below first F.0) in
          let within = sets_within K p to test ((walks k).useful (resumed_at first F.0)) (λ n b.
          let E = each n b in (
            E.0,
            E.1,
            subst (λ i. (walks i).useful (resumed_at first F.0) (cached K n) ≡ true) E.2
                (subst (λ y. (walks_at K (victim K n)).useful y (cached K n) ≡ true)
                (one_resumed n first E.0 F.0 (E.1 ∙ sym F.1)) (useful_resumed n E.0)),
          )) in
          let few = bounds (task_at s p) k (resumed_at first F.0) below node in
          omega (arith, within, few)

pub part_reloads_are_useful : PartReloadsAreUseful
part_reloads_are_useful s set graphs parts n x p from time until R C run kept sound b P =
    let K : CheckedRun = checked_run (kept_run s set graphs (λ k. 0) n R C (runs_jobs run) kept) parts
    sound in
    let both = and_parts (is_owner (candidate_at s n) x) _ b in
    let mine = owns_true (candidate_at s n) x both.0 in
    let is : victim K n ≡ x = ap (λ c. unwrap_or c 0) mine in
    let e = reload_at K n x (omega arith) mine is both.1 in
    let gap = P.lies.gap.until in
    let then = useful_then K n e (omega arith) until P.lies.to
    (subst (λ z. FetchesAt s z until P.lies.to) (sym is) P.lies.gap.ends) P.in_time
    (λ m g late before made q.
    P.last.last m g (omega (arith, late, gap)) before made.is
    (q ∙ ap (λ z. set_at K (job_after s n z).pc) is)) in
    subst (λ z. (parts (job_task s z)).useful (node_of_job (graphs (job_task s z))
    (job_after s until z)) (set_at K (job_after s n z).pc) ≡ true) is then
