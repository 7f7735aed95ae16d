-- Each job's fetches are a walk, and a reload's block is that of the job's own last fetch to the
-- set.
use Rattle.std.proofs.Common.{◌≡◌, ◌≢◌, ◌⊎◌, ℕ, zero, suc, ◌<◌, true, List, [], ◌∷◌, length, Option}
use Rattle.std.proofs.Common.{Some, None, refl, sym, ◌∙◌, ap, subst, inl, inr, arith, ◌==◌, map}
use Rattle.std.proofs.lemmas.Bool.{cases_Bool, cases_eq, eq-eqb, eqb-true, false≢true}
use Rattle.std.proofs.lemmas.List.{get_or_default}
use Rattle.crpd_base.proofs.Options.{some_injective, none_some, same_or_not}
use Rattle.crpd_base.specs.declared.data.Certificate.{Certificate}
use Rattle.crpd_base.specs.declared.data.ScriptJob.{ScriptJob}
use Rattle.crpd_base.specs.declared.data.TaskPlan.{TaskPlan}
use Rattle.icache.specs.Accesses.{Accesses, accesses, last_access}
use Rattle.icache.specs.Cache.{block_of, set_of}
use Rattle.flow_watch.specs.Watch.{start, context, is_unbroken}
use Rattle.flat_graph.specs.FlatGraph.{FlatNode}
use Rattle.flat_graph.specs.Graph.{IsWalk, Places}
use Rattle.flat_graph.specs.Numbered.{node_at}
use Rattle.loop_regions.specs.Steps.{Step, address_after, nodes_along, watch_after}
use Rattle.loop_regions.specs.TaskGraph.{TaskGraph}
use Rattle.evict_sets.specs.Full.{IsHit}
use Rattle.evict_sets.specs.CacheClauses.{AllStatesMeet}
use Rattle.evict_sets.specs.ListedPart.{listed_of, certified_task}
use Rattle.evict_sets.proofs.WalkLaws.{last_here, last_on, last_access_law, on_walk}
use Rattle.preempt_machine.specs.Machine.{Job, plan_of, no_job}
use Rattle.preempt_machine.specs.Safe.{IsKept}
use Rattle.preempt_machine.specs.Step.{is_open, turn_of, makes_fetch, Fetch, Start, state, fetch_at}
use Rattle.preempt_machine.proofs.Steps.{candidate_some, ready_open, step_own, step_other}
use Rattle.preempt_machine.proofs.Steps.{fetch_says, fetch_left, open_is_below}
use Rattle.preempt_machine.proofs.Runs.{state_line}
use Rattle.preempt_machine.proofs.Watches.{turned_watch, unbroken_before}
use Rattle.run_account.specs.Fetches.{job_after, fetched_set}
use Rattle.run_account.specs.Ledger.{IsLedgerReload}
use Rattle.run_account.specs.Nodes.{job_task, plan_at, node_of_job, IsNodeOfJob}
use Rattle.run_account.specs.Reloads.{fetched_block, FetchesAt, HasOwn}
use Rattle.run_account.specs.Walks.{fetched_by, fetched_nodes, IsGraphAt, HasGraphs, IsAtNode}
use Rattle.run_account.specs.Walks.{AreFetched, FetchesHaveNodes, FetchesAreWalk, JobHasOneNode}
use Rattle.run_account.specs.Walks.{LedgerReloadIsOwn}
use Rattle.run_account.proofs.Jobs.{jobs_length, line_is, new_at}
use Rattle.run_account.proofs.Owners.{candidate_at}
use Rattle.run_account.proofs.OwnFetches.{fetch_made, fetch_not_made, own_candidate, own_keeps}
use Rattle.run_account.proofs.OwnFetches.{own_new}
use Rattle.run_account.proofs.ReloadLaws.{fetcher_open, same_fetch}
use Rattle.run_account.proofs.Stands.{StandsOn, nodes_after, stands_first, turn_stands, head_of}
use Rattle.run_account.proofs.Stands.{node_is}

-- the address of the first of the nodes along steps is the address after them
place_is : (p : Places) (plan : TaskPlan) (y : ℕ) (before : List ℕ) (steps : List Step)
    → map (node_at p) (y ∷ before) ≡ nodes_along plan steps
    → p.address y ≡ address_after plan.entry steps
place_is p plan y before [] e = ap (λ (n : FlatNode). n.address) (head_of e)
place_is p plan y before (st ∷ steps) e = ap (λ (n : FlatNode). n.address) (head_of e)

-- its context is that of the watch after them
context_is : (p : Places) (plan : TaskPlan) (y : ℕ) (before : List ℕ) (steps : List Step)
    → map (node_at p) (y ∷ before) ≡ nodes_along plan steps
    → p.context y ≡ context (watch_after plan steps)
context_is p plan y before [] e = ap (λ (n : FlatNode). n.context) (head_of e)
context_is p plan y before (st ∷ steps) e = ap (λ (n : FlatNode). n.context) (head_of e)

module _ (s : Start) (graphs : ℕ → TaskGraph) where
  pub opened : (n x : ℕ) → candidate_at s n ≡ Some x → is_open (job_after s n x).standing ≡ true
  opened n x e =
      ready_open (state s n).time (job_after s n x) (candidate_some s.system (state s n) x e).ready

  pub same_plan : (n x : ℕ) → plan_of s.system (job_after s n x).line.task.0 ≡ plan_at s x
  same_plan n x = ap (λ (l : ScriptJob). plan_of s.system l.task.0) (state_line s n x)

  -- the nodes of the fetches after a step
  pub nodes_own : (n x : ℕ) → candidate_at s n ≡ Some x
      → fetched_nodes s graphs (suc n) x
      ≡ nodes_after s.system (graphs (job_task s x)) (turn_of s.system (state s n) x)
      (fetched_nodes s graphs n x)
  nodes_own n x e =
      elim (cases_Bool (makes_fetch s.system (turn_of s.system (state s n) x))) [
        | inl m ↦ rw (fetch_made s x n e m, m, eq-eqb x x refl) refl
        | inr m ↦ rw (fetch_not_made s x n e m, m) refl
      ]

  nodes_by : (n x : ℕ) (f : Option Fetch) → fetch_at s n ≡ f → candidate_at s n ≢ Some x
      → fetched_by s graphs n x f (fetched_nodes s graphs n x) ≡ fetched_nodes s graphs n x
  nodes_by n x None e ne = refl
  nodes_by n x (Some f) e ne =
      elim (cases_Bool (f.job == x)) [
        | inl b ↦ absurd (ne (own_candidate s x n f (record { is = e; by = eqb-true f.job x b })))
        | inr b ↦ rw b refl
      ]

  pub nodes_other : (n x : ℕ) → candidate_at s n ≢ Some x
      → fetched_nodes s graphs (suc n) x ≡ fetched_nodes s graphs n x
  nodes_other n x ne = nodes_by n x (fetch_at s n) refl ne

  -- a fetch adds its node
  pub nodes_fetch : (n x : ℕ) (f : Fetch) → FetchesAt s x n f
      → fetched_nodes s graphs (suc n) x
      ≡ node_of_job (graphs (job_task s x)) (job_after s n x) ∷ fetched_nodes s graphs n x
  nodes_fetch n x f h = let b : (f.job == x) ≡ true = eq-eqb _ _ h.by in rw (h.is, b) refl

  -- a step adds one or none
  nodes_step_by : (n x : ℕ) (o : Option Fetch) → fetch_at s n ≡ o
      → ((f : Fetch) × FetchesAt s x n f)
      ⊎ (fetched_by s graphs n x o (fetched_nodes s graphs n x) ≡ fetched_nodes s graphs n x)
  nodes_step_by n x None e = inr refl
  nodes_step_by n x (Some f) e =
      elim (cases_Bool (f.job == x)) [
        | inl b ↦ inl (f, record { is = e; by = eqb-true _ _ b })
        | inr b ↦ inr (rw b refl)
      ]

  pub nodes_step : (n x : ℕ)
      → ((f : Fetch) × FetchesAt s x n f)
      ⊎ (fetched_nodes s graphs (suc n) x ≡ fetched_nodes s graphs n x)
  nodes_step n x = nodes_step_by n x (fetch_at s n) refl

  broken_step : (n x : ℕ) → (job_after s n x).watch ≡ None → (job_after s (suc n) x).watch ≡ None
  broken_step n x b =
      elim (same_or_not (candidate_at s n) (Some x)) [
        | inl e ↦
            ap (λ (j : Job). j.watch) (step_own s.system (state s n) x e)
            ∙ turned_watch s.system (state s n).time (turn_of s.system (state s n) x) b
        | inr ne ↦ ap (λ (j : Job). j.watch) (step_other s.system (state s n) x ne) ∙ b
      ]

  -- a watch that is not broken was not broken before
  pub kept_before : (n x : ℕ) → is_unbroken (job_after s (suc n) x).watch ≡ true
      → is_unbroken (job_after s n x).watch ≡ true
  kept_before n x k = unbroken_before (job_after s n x).watch _ (broken_step n x) k

  -- in a kept state no watch is broken
  pub each_kept : (n x : ℕ) → x < length s.lines → IsKept (state s n)
      → is_unbroken (job_after s n x).watch ≡ true
  each_kept n x h k = k x no_job (omega (arith, h, jobs_length s n))

  -- a kept state was kept before
  pub kept_one : (m : ℕ) → IsKept (state s (suc m)) → IsKept (state s m)
  kept_one m k = λ x d l.
      let below : x < length (state s (suc m)).jobs =
      omega (arith, l, jobs_length s m, jobs_length s (suc m)) in
      let before : is_unbroken (job_after s m x).watch ≡ true =
      kept_before m x (k x no_job below) in
      subst (λ (j : Job). is_unbroken j.watch ≡ true)
      (get_or_default (state s m).jobs x no_job d l) before

  module _ (A : HasGraphs s graphs) (x : ℕ) (h : x < length s.lines) where
    abbrev tg : TaskGraph
    tg = graphs (job_task s x)

    ok : IsGraphAt s graphs (job_task s x)
    ok = A.graph x h

    watch_is : (job_after s 0 x).watch ≡ start (plan_at s x)
    watch_is =
        ap (λ (j : Job). j.watch) (new_at s x h)
        ∙ ap (λ (l : ScriptJob). start (plan_of s.system l.task.0)) (sym (line_is s 0 x h))

    entry_is : (job_after s 0 x).pc ≡ (plan_at s x).entry
    entry_is =
        ap (λ (j : Job). j.pc) (new_at s x h)
        ∙ ap (λ (l : ScriptJob). (plan_of s.system l.task.0).entry) (sym (line_is s 0 x h))

    left_is : (job_after s 0 x).left ≡ 0
    left_is = ap (λ (j : Job). j.left) (new_at s x h)

    abbrev Stands : ℕ → Type 0
    Stands n =
        StandsOn s.system.word (plan_at s x) tg (job_after s n x) (fetched_nodes s graphs n x)

    standing_own : (n : ℕ) → candidate_at s n ≡ Some x
        → is_unbroken (job_after s (suc n) x).watch ≡ true
        → is_open (job_after s (suc n) x).standing ≡ true → Stands n → Stands (suc n)
    standing_own n e k o S =
        let own = step_own s.system (state s n) x e in
        let after = turn_stands s.system (plan_at s x) tg ok.follows ok.no_errors A.code A.hit
        (state s n).time (turn_of s.system (state s n) x) (fetched_nodes s graphs n x) S
        (same_plan n x)
        (subst (λ (j : Job). is_unbroken j.watch ≡ true) own k)
        (subst (λ (j : Job). is_open j.standing ≡ true) own o) in
        subst (λ xs. StandsOn s.system.word (plan_at s x) tg (job_after s (suc n) x) xs)
        (sym (nodes_own n x e))
        (subst (λ (j : Job). StandsOn s.system.word (plan_at s x) tg j
        (nodes_after s.system tg (turn_of s.system (state s n) x) (fetched_nodes s graphs n x)))
        (sym own) after)

    pub standing : (n : ℕ) → is_unbroken (job_after s n x).watch ≡ true
        → is_open (job_after s n x).standing ≡ true → Stands n
    standing zero k o =
        stands_first s.system (plan_at s x) tg ok.follows ok.no_errors A.code
        (job_after s 0 x) watch_is entry_is left_is
    standing (suc n) k o =
        elim (same_or_not (candidate_at s n) (Some x)) [
          | inl e ↦ standing_own n e k o (standing n (kept_before n x k) (opened n x e))
          | inr ne ↦
              let same = step_other s.system (state s n) x ne in
              let S = standing n (subst (λ (j : Job). is_unbroken j.watch ≡ true) same k)
              (subst (λ (j : Job). is_open j.standing ≡ true) same o) in
              subst (λ xs. StandsOn s.system.word (plan_at s x) tg (job_after s (suc n) x) xs)
              (sym (nodes_other n x ne))
              (subst (λ (j : Job). StandsOn s.system.word (plan_at s x) tg j
              (fetched_nodes s graphs n x)) (sym same) S)
        ]

    -- an open job has a node
    pub some_node : (n : ℕ) → is_unbroken (job_after s n x).watch ≡ true
        → is_open (job_after s n x).standing ≡ true
        → IsNodeOfJob tg (job_after s n x) (node_of_job tg (job_after s n x))
    some_node n k o =
        let S = standing n k o in
        record {
          below =
              on_walk tg.graph ok.follows.graph (node_of_job tg (job_after s n x))
              S.before S.walk;
          context_is =
              context_is tg.places (plan_at s x) (node_of_job tg (job_after s n x)) S.before
              S.steps S.along ∙ ap context (sym S.watch);
          address_is =
              place_is tg.places (plan_at s x) (node_of_job tg (job_after s n x)) S.before
              S.steps S.along ∙ sym S.place;
        }

    -- so the nodes of its fetches are those of the search
    pub fetched_are : (n : ℕ) → is_unbroken (job_after s n x).watch ≡ true
        → AreFetched s graphs n x (fetched_nodes s graphs n x)
    fetched_are zero k = refl
    fetched_are (suc n) k =
        let kn = kept_before n x k in (
          fetched_nodes s graphs n x,
          fetched_are n kn,
          record {
            fetched = λ f made. (
              node_of_job tg (job_after s n x),
              some_node n kn (fetcher_open s x n f made),
              nodes_fetch n x f made,
            );
            other = λ away. elim (nodes_step n x) [
              | inl g ↦ absurd (away g.0 g.1)
              | inr same ↦ same
            ];
          },
        )

    pub at_node : (n : ℕ) → is_unbroken (job_after s n x).watch ≡ true
        → is_open (job_after s n x).standing ≡ true → (job_after s n x).left ≡ 0
        → IsAtNode s graphs n x
    at_node n k o l =
        let S = standing n k o in
        let bit : ((job_after s n x).left == 0) ≡ true = eq-eqb _ _ l in
        let same : fetched_nodes s graphs n x ≡ S.before = rw bit at S.fetched in
        record {
          walk =
              subst (λ xs. IsWalk tg.graph (node_of_job tg (job_after s n x) ∷ xs))
              (sym same) S.walk;
          at = some_node n k o;
        }

-- the addresses of a job's fetches have its own last fetch to a set
module _ (s : Start) (graphs : ℕ → TaskGraph) (A : HasGraphs s graphs) (x : ℕ)
    (h : x < length s.lines) where
  abbrev own_graph : TaskGraph
  own_graph = graphs (job_task s x)

  abbrev acc : Accesses
  acc = accesses s.system.platform own_graph.places.address

  -- the fetch at a node
  own_by_fetch : (n c b : ℕ) (f : Fetch) → FetchesAt s x n f
      → own_graph.places.address (node_of_job own_graph (job_after s n x)) ≡ f.address
      → (last_access acc c (fetched_nodes s graphs n x) ≡ Some b → HasOwn s x c n b)
      → last_access acc c (node_of_job own_graph (job_after s n x) ∷ fetched_nodes s graphs n x)
      ≡ Some b → HasOwn s x c (suc n) b
  own_by_fetch n c b f made at before e =
      let block : acc.block (node_of_job own_graph (job_after s n x)) ≡ fetched_block s f =
      ap (block_of s.system.platform) at in
      let in_set : acc.set (node_of_job own_graph (job_after s n x)) ≡ fetched_set s f =
      ap (set_of s.system.platform) block in
      elim (cases_eq (acc.set (node_of_job own_graph (job_after s n x))) c) [
        | inl q ↦
            let here = last_here acc c (node_of_job own_graph (job_after s n x))
            (acc.block (node_of_job own_graph (job_after s n x)))
            (fetched_nodes s graphs n x) q refl in
            let is : fetched_block s f ≡ b = sym block ∙ some_injective (sym here ∙ e) in
            subst (λ z. HasOwn s x z (suc n) b) (sym in_set ∙ q)
            (subst (λ z. HasOwn s x (fetched_set s f) (suc n) z) is (own_new s x n f made))
        | inr ne ↦
            let on = last_on acc c (node_of_job own_graph (job_after s n x))
            (fetched_nodes s graphs n x) ne in
            own_keeps s x c n b (before (sym on ∙ e))
            (λ g k z. ne (in_set ∙ ap (fetched_set s) (same_fetch s n f g made.is k.is) ∙ z))
      ]

  pub address_at : (n : ℕ) (f : Fetch) → FetchesAt s x n f
      → is_unbroken (job_after s n x).watch ≡ true → IsAtNode s graphs n x
  address_at n f made k =
      let says = fetch_says s.system (state s n) f made.is in
      at_node s graphs A x h n k (fetcher_open s x n f made)
      (subst (λ i. (job_after s n i).left ≡ 0) made.by (fetch_left s.system (state s n) f says))

  pub pc_of : (n : ℕ) (f : Fetch) → FetchesAt s x n f → (job_after s n x).pc ≡ f.address
  pc_of n f made =
      subst (λ i. (job_after s n i).pc ≡ f.address) made.by
      (sym (fetch_says s.system (state s n) f made.is).at)

  own_more : (n c b : ℕ) (o : Option Fetch) → fetch_at s n ≡ o
      → is_unbroken (job_after s n x).watch ≡ true
      → (last_access acc c (fetched_nodes s graphs n x) ≡ Some b → HasOwn s x c n b)
      → last_access acc c (fetched_by s graphs n x o (fetched_nodes s graphs n x)) ≡ Some b
      → HasOwn s x c (suc n) b
  own_more n c b None is k before e =
      own_keeps s x c n b (before e) (λ g q. absurd (none_some (sym is ∙ q.is)))
  own_more n c b (Some f) is k before e =
      elim (cases_Bool (f.job == x)) [
        | inl bit ↦
            let made : FetchesAt s x n f = record { is = is; by = eqb-true f.job x bit } in
            let N = address_at n f made k in
            own_by_fetch n c b f made (N.at.address_is ∙ pc_of n f made) before (rw bit at e)
        | inr bit ↦
            own_keeps s x c n b (before (rw bit at e))
            (λ g q. let same = same_fetch s n f g is q.is in
            absurd (false≢true (sym bit ∙ eq-eqb f.job x (ap (λ (z : Fetch). z.job) same ∙ q.by))))
      ]

  pub own_of_nodes : (n c b : ℕ) → is_unbroken (job_after s n x).watch ≡ true
      → last_access acc c (fetched_nodes s graphs n x) ≡ Some b → HasOwn s x c n b
  own_of_nodes zero c b k e = absurd (none_some e)
  own_of_nodes (suc n) c b k e =
      let kn = kept_before s graphs n x k in
      own_more n c b (fetch_at s n) refl kn (own_of_nodes n c b kn) e

  -- a job has one node at most
  pub one_node : (n y : ℕ) → IsNodeOfJob own_graph (job_after s n x) y
      → node_of_job own_graph (job_after s n x) ≡ y
  one_node n y N =
      let g = A.graph x h in
      node_is s.system (plan_at s x) own_graph g.follows g.no_errors A.code (job_after s n x).watch
      (job_after s n x).pc y N.below N.context_is N.address_is

  -- a ledger's reload is at the job's node
  pub counts_node : (c : Certificate) (n : ℕ) (f : Fetch) → IsLedgerReload s graphs c n x f
      → IsHit own_graph.graph acc (listed_of (certified_task c (job_task s x)))
      (node_of_job own_graph (job_after s n x))
  counts_node c n f E =
      subst (IsHit own_graph.graph acc (listed_of (certified_task c (job_task s x))))
      (sym (one_node n E.node E.at)) E.counted

  -- a fetch at a node that is counted as a hit, and that misses
  module _ (c : Certificate)
      (M : AllStatesMeet own_graph.graph acc (listed_of (certified_task c (job_task s x)))) where
    pub own_block : (n : ℕ) (f : Fetch) → FetchesAt s x n f
        → is_unbroken (job_after s n x).watch ≡ true
        → IsHit own_graph.graph acc (listed_of (certified_task c (job_task s x)))
        (node_of_job own_graph (job_after s n x))
        → HasOwn s x (fetched_set s f) n (fetched_block s f)
    own_block n f made k hit =
        let N = address_at n f made k in
        let block : acc.block (node_of_job own_graph (job_after s n x)) ≡ fetched_block s f =
        ap (block_of s.system.platform) (N.at.address_is ∙ pc_of n f made) in
        let in_set : acc.set (node_of_job own_graph (job_after s n x)) ≡ fetched_set s f =
        ap (set_of s.system.platform) block in
        let last = last_access_law own_graph.graph acc (listed_of (certified_task c (job_task s x)))
        (node_of_job own_graph (job_after s n x))
        (acc.set (node_of_job own_graph (job_after s n x)))
        (acc.block (node_of_job own_graph (job_after s n x))) (fetched_nodes s graphs n x)
        (A.graph x h).follows.graph M N.walk hit in
        subst (λ z. HasOwn s x z n (fetched_block s f)) in_set
        (subst (λ z. HasOwn s x (acc.set (node_of_job own_graph (job_after s n x))) n z) block
        (own_of_nodes n (acc.set (node_of_job own_graph (job_after s n x)))
        (acc.block (node_of_job own_graph (job_after s n x))) k last))

pub fetches_are_walk : FetchesAreWalk
fetches_are_walk s graphs n x A h k o l = at_node s graphs A x h n k o l

pub job_has_one_node : JobHasOneNode
job_has_one_node s graphs n x A h k o =
    record {
      some = some_node s graphs A x h n k o;
      one = λ y N. sym (one_node s graphs A x h n y N);
    }

pub fetches_have_nodes : FetchesHaveNodes
fetches_have_nodes s graphs n x A h k = fetched_are s graphs A x h n k

-- the job of a fetch is one of the script
pub fetcher_below : (s : Start) (x n : ℕ) (f : Fetch) → FetchesAt s x n f → x < length s.lines
fetcher_below s x n f made =
    omega (arith, open_is_below (state s n).jobs x (fetcher_open s x n f made), jobs_length s n)

pub ledger_reload_is_own : LedgerReloadIsOwn
ledger_reload_is_own s graphs c n x f A M E =
    let h = fetcher_below s x n f E.fetches in
    let own = own_block s graphs A x h c (M x h) n f E.fetches (each_kept s graphs n x h E.kept)
    (counts_node s graphs A x h c n f E) in
    record {
      time = own.time;
      own = own.fetch;
      reload = record {
        fetches = E.fetches;
        own = own.last;
        same_block = own.is;
        misses = E.misses;
      };
    }
