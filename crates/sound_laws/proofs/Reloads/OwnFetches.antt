-- Step 4, own_fetches_agree and ledger_reloads_are_own: a job's own last fetches are the last
-- accesses of its walk, so they agree with the full states, and a ledger's reload is its job's own.
use Rattle.std.proofs.Common.{◌≡◌, ◌≢◌, ℕ, ◌<◌, Bool, true, length, Some, refl, sym}
use Rattle.std.proofs.Common.{◌∙◌, ap, subst, inl, inr}
use Rattle.std.proofs.lemmas.Bool.{and_parts, eqb-true, not-true}
use Rattle.crpd_base.specs.declared.data.TaskSet.{TaskSet}
use Rattle.icache.specs.Accesses.{Accesses, last_access}
use Rattle.icache.specs.Cache.{block_of, set_of}
use Rattle.flow_watch.specs.Watch.{is_unbroken}
use Rattle.evict_sets.specs.Full.{FullState, IsHit}
use Rattle.evict_sets.specs.CacheClauses.{StateAfter}
use Rattle.evict_sets.proofs.WalkLaws.{last_here, last_on, last_access_law}
use Rattle.crpd_base.specs.declared.data.TaskPart.{TaskPart}
use Rattle.evict_sets.specs.ListedPart.{listed_of}
use Rattle.loop_regions.specs.TaskGraph.{TaskGraph}
use Rattle.cert_check.specs.JudgeInput.{accesses_of}
use Rattle.evict_sets.specs.ListedPart.{certified_task}
use Rattle.preempt_machine.specs.Step.{is_open, is_owner, Fetch, Start, state, turn_of, makes_fetch}
use Rattle.preempt_machine.specs.Safe.{NamesTasks}
use Rattle.run_account.specs.Fetches.{job_after}
use Rattle.run_account.specs.Reloads.{HasOwn, IsOwnReload}
use Rattle.run_account.proofs.Owners.{candidate_at, owns_true}
use Rattle.run_account.proofs.OwnFetches.{fetch_made}
use Rattle.run_account.specs.Nodes.{job_task, plan_at, node_of_job, IsNodeOfJob}
use Rattle.run_account.specs.Walks.{fetched_nodes, HasGraphs}
use Rattle.sound_laws.specs.Walks.{HasTaskRanges, IsCodeOf, before_of, IsOnWalk}
use Rattle.crpd_base.specs.Sets.{has as has_set}
use Rattle.walk_parts.specs.Parts.{WalkPart, IsSoundPart}
use Rattle.sound_laws.specs.StepTests.{misses_counted_hit, misses_if, is_counted}
use Rattle.sound_laws.specs.OwnFetches.{OwnFetchesAgreeLaw, IsUsefulReload, LedgerReloadsAreOwn}
use Rattle.sound_laws.proofs.Walks.Walked.{before_fresh}
use Rattle.run_account.proofs.JobWalks.{opened, own_of_nodes, some_node}
use Rattle.sound_laws.proofs.Walks.KeptWalks.{hit_some, task_below, ok, walking}
use Rattle.sound_laws.proofs.Walks.Stands.{walk_node}
use Rattle.sound_laws.proofs.Execution.Certified.{IsMet, is_met, hit_test, yes_meets}

-- what the laws on runs require of such a run
pub has_graphs : (s : Start) (set : TaskSet) (graphs : ℕ → TaskGraph)
    → HasTaskRanges set → IsCodeOf s.system set graphs → NamesTasks set s.lines → HasGraphs s graphs
has_graphs s set graphs R C T =
    record {
      code = C.map;
      hit = hit_some s set graphs R C T;
      graph = λ x h.
          let g = ok s set graphs R C T x h in
          record { follows = g.follows; no_errors = g.no_errors };
    }

module _ (s : Start) (set : TaskSet) (graphs : ℕ → TaskGraph) (R : HasTaskRanges set)
    (C : IsCodeOf s.system set graphs) (T : NamesTasks set s.lines) (x : ℕ)
    (h : x < length s.lines) where
  abbrev tg : TaskGraph
  tg = graphs (job_task s x)

  abbrev pub acc : Accesses
  acc = accesses_of s.system.platform (graphs (job_task s x))

  pub on_walk : (n : ℕ) → is_unbroken (job_after s n x).watch ≡ true
      → is_open (job_after s n x).standing ≡ true
      → IsOnWalk s.system.word (plan_at s x) (graphs (job_task s x)) (job_after s n x)
      (fetched_nodes s graphs n x)
  on_walk n k o = (walking s set graphs R C T n x h k).on_walk o

  -- the node of an open job
  pub there : (n : ℕ) → is_unbroken (job_after s n x).watch ≡ true
      → is_open (job_after s n x).standing ≡ true
      → IsNodeOfJob tg (job_after s n x) (node_of_job tg (job_after s n x))
  there n k o = some_node s graphs (has_graphs s set graphs R C T) x h n k o

  -- the block and the set of a job's node are those of its pc
  pub block_is : (n : ℕ) → is_unbroken (job_after s n x).watch ≡ true
      → is_open (job_after s n x).standing ≡ true
      → acc.block (node_of_job tg (job_after s n x))
      ≡ block_of s.system.platform (job_after s n x).pc
  block_is n k o = ap (block_of s.system.platform) (on_walk n k o).walked.address

  pub set_is : (n : ℕ) → is_unbroken (job_after s n x).watch ≡ true
      → is_open (job_after s n x).standing ≡ true
      → acc.set (node_of_job tg (job_after s n x))
      ≡ set_of s.system.platform (block_of s.system.platform (job_after s n x).pc)
  set_is n k o = ap (set_of s.system.platform) (block_is n k o)

  -- the last access of the fetched nodes is the own last fetch
  pub own_of : (n c b : ℕ) → is_unbroken (job_after s n x).watch ≡ true
      → last_access acc c (fetched_nodes s graphs n x) ≡ Some b → HasOwn s x c n b
  own_of n c b k e = own_of_nodes s graphs (has_graphs s set graphs R C T) x h n c b k e

  -- the set of a job's pc
  abbrev pub pc_set : ℕ → ℕ
  pc_set n = set_of s.system.platform (block_of s.system.platform (job_after s n x).pc)

  module _ (part : WalkPart) (P : IsSoundPart s.system.platform tg part) where
    -- a reload by the part is the job's own, and its set is in the task's useful set
    pub record IsPartReload (n : ℕ) : Type 0 where
      pub own_time : ℕ
      pub own : Fetch
      pub reload : IsOwnReload s x n own_time
          (record { job = x; address = (job_after s n x).pc }) own
      pub left : (job_after s n x).left ≡ 0
      pub counted : is_counted s graphs part.counts x n ≡ true
      pub in_set : has_set part.part.useful (pc_set n) ≡ true

    pub part_reload : (n : ℕ) → is_unbroken (job_after s n x).watch ≡ true
        → candidate_at s n ≡ Some x
        → misses_if s.system (is_counted s graphs part.counts x n)
        (turn_of s.system (state s n) x) ≡ true
        → IsPartReload n
    part_reload n k e b =
        let o = opened s graphs n x e in
        let both = and_parts (makes_fetch s.system (turn_of s.system (state s n) x)) _ b in
        let more = and_parts (is_counted s graphs part.counts x n) _ both.1 in
        let l : (job_after s n x).left ≡ 0 =
        eqb-true _ _ (and_parts _ _ (and_parts _ _ both.0).0).1 in
        let walk = (on_walk n k o).walked.walk in
        let node = node_of_job tg (job_after s n x) in
        let before = before_of (job_after s n x) (fetched_nodes s graphs n x) in
        let below = walk_node s.system (plan_at s x) tg (ok s set graphs R C T x h) C.map
        (node_of_job tg (job_after s n x))
        (before_of (job_after s n x) (fetched_nodes s graphs n x)) walk in
        let last = P.own (node_of_job tg (job_after s n x))
        (before_of (job_after s n x) (fetched_nodes s graphs n x)) walk more.0 in
        let own = own_of n (acc.set (node_of_job tg (job_after s n x)))
        (acc.block (node_of_job tg (job_after s n x))) k
        (ap (last_access acc (acc.set (node_of_job tg (job_after s n x))))
        (sym (before_fresh (job_after s n x) (fetched_nodes s graphs n x) l)) ∙ last) in
        let own_pc : HasOwn s x (pc_set n) n (block_of s.system.platform (job_after s n x).pc) =
        subst (λ z. HasOwn s x z n (block_of s.system.platform (job_after s n x).pc)) (set_is n k o)
        (subst (λ z. HasOwn s x (acc.set (node_of_job tg (job_after s n x))) n z) (block_is n k o)
        own) in
        let useful = P.all (node_of_job tg (job_after s n x))
        (acc.set (node_of_job tg (job_after s n x))) below
        (P.useful_here (node_of_job tg (job_after s n x))
        (before_of (job_after s n x) (fetched_nodes s graphs n x)) walk more.0) in
        record {
          own_time = own_pc.time;
          own = own_pc.fetch;
          reload = record {
            fetches = record { is = fetch_made s x n e both.0; by = refl };
            own = own_pc.last;
            same_block = own_pc.is;
            misses = not-true _ more.1;
          };
          left = l;
          counted = more.0;
          in_set = subst (λ z. has_set part.part.useful z ≡ true) (set_is n k o) useful;
        }

  module _ (c : TaskPart) (counted : ℕ → Bool) (M : IsMet s.system.platform tg c counted) where
    last_is : (n c' m : ℕ) (k : is_unbroken (job_after s n x).watch ≡ true)
        (o : is_open (job_after s n x).standing ≡ true)
        → FullState tg.graph acc (listed_of c) (node_of_job tg (job_after s n x)) c' m
        → last_access acc c' (before_of (job_after s n x) (fetched_nodes s graphs n x)) ≡ Some m
    last_is n c' m k o st =
        last_access_law tg.graph acc (listed_of c) (node_of_job tg (job_after s n x)) c' m
        (before_of (job_after s n x) (fetched_nodes s graphs n x))
        (ok s set graphs R C T x h).follows.graph M.all.listing.states
        (on_walk n k o).walked.walk st

    pub own_between : (n : ℕ) (k : is_unbroken (job_after s n x).watch ≡ true)
        (o : is_open (job_after s n x).standing ≡ true) → (job_after s n x).left ≡ 0 → (c' m : ℕ)
        → FullState tg.graph acc (listed_of c) (node_of_job tg (job_after s n x)) c' m
        → HasOwn s x c' n m
    own_between n k o l c' m st =
        own_of n c' m k
        (ap (last_access acc c')
        (sym (before_fresh (job_after s n x) (fetched_nodes s graphs n x) l))
        ∙ last_is n c' m k o st)

    pub own_within : (n : ℕ) (k : is_unbroken (job_after s n x).watch ≡ true)
        (o : is_open (job_after s n x).standing ≡ true) → (job_after s n x).left ≢ 0 → (c' m : ℕ)
        → StateAfter tg.graph acc (listed_of c) (node_of_job tg (job_after s n x)) c' m
        → HasOwn s x c' n m
    own_within n k o l c' m after =
        let nodes = (on_walk n k o).under_way l in
        own_of n c' m k (ap (last_access acc c') nodes ∙
        elim after [
          | inl here ↦
              last_here acc c' (node_of_job tg (job_after s n x)) m
              (before_of (job_after s n x) (fetched_nodes s graphs n x)) here.0 here.1
          | inr on ↦
              last_on acc c' (node_of_job tg (job_after s n x))
              (before_of (job_after s n x) (fetched_nodes s graphs n x)) on.0
              ∙ last_is n c' m k o on.1
        ])

    -- a reload is at a node that is counted as a hit
    pub hit_is : (n : ℕ) → is_unbroken (job_after s n x).watch ≡ true → candidate_at s n ≡ Some x
        → misses_counted_hit s.system tg counted (turn_of s.system (state s n) x) ≡ true
        → IsHit tg.graph acc (listed_of c) (node_of_job tg (job_after s n x))
    hit_is n k e b =
        let both = and_parts (makes_fetch s.system (turn_of s.system (state s n) x)) _ b in
        let more = and_parts (counted (node_of_job tg (job_after s n x))) _ both.1 in
        let W = on_walk n k (opened s graphs n x e) in
        let node = walk_node s.system (plan_at s x) tg (ok s set graphs R C T x h) C.map
        (node_of_job tg (job_after s n x))
        (before_of (job_after s n x) (fetched_nodes s graphs n x)) W.walked.walk in
        (M.hits (node_of_job tg (job_after s n x)) node).0 more.0

    pub reload_is : (n : ℕ) → is_unbroken (job_after s n x).watch ≡ true → candidate_at s n ≡ Some x
        → misses_counted_hit s.system tg counted (turn_of s.system (state s n) x) ≡ true
        → IsUsefulReload s tg c n x
    reload_is n k e b =
        let o = opened s graphs n x e in
        let both = and_parts (makes_fetch s.system (turn_of s.system (state s n) x)) _ b in
        let more = and_parts (counted (node_of_job tg (job_after s n x))) _ both.1 in
        let l : (job_after s n x).left ≡ 0 =
        eqb-true _ _ (and_parts _ _ (and_parts _ _ both.0).0).1 in
        let W = on_walk n k o in
        let node = walk_node s.system (plan_at s x) tg (ok s set graphs R C T x h) C.map
        (node_of_job tg (job_after s n x))
        (before_of (job_after s n x) (fetched_nodes s graphs n x)) W.walked.walk in
        let hit = hit_is n k e b in
        let own_pc : HasOwn s x
        (set_of s.system.platform (block_of s.system.platform (job_after s n x).pc)) n
        (block_of s.system.platform (job_after s n x).pc) =
        subst (λ z. HasOwn s x z n (block_of s.system.platform (job_after s n x).pc)) (set_is n k o)
        (subst (λ z. HasOwn s x (acc.set (node_of_job tg (job_after s n x))) n z) (block_is n k o)
        (own_between n k o l (acc.set (node_of_job tg (job_after s n x)))
        (acc.block (node_of_job tg (job_after s n x))) hit)) in
        let useful = (M.all.sets.useful (node_of_job tg (job_after s n x)) node).own hit in
        record {
          own_time = own_pc.time;
          own = own_pc.fetch;
          reload = record {
            fetches = record { is = fetch_made s x n e both.0; by = refl };
            own = own_pc.last;
            same_block = own_pc.is;
            misses = not-true _ more.1;
          };
          node = node_of_job tg (job_after s n x);
          at = there n k o;
          useful = useful;
          in_set = (M.all.sets.sets (node_of_job tg (job_after s n x)) node).all _ useful;
        }

pub own_fetches_agree : OwnFetchesAgreeLaw
own_fetches_agree s set graphs c n x A F o =
    let R = A.in_range in
    let C = A.code in
    let T = F.tasks in
    let h = F.job in
    let k = F.unbroken in
    let met = yes_meets set graphs c A.says in
    let l = task_below s set graphs R C T x h in
    let test = hit_test s set graphs R C T c (job_task s x) met l in
    let M = is_met s set graphs R C T c x h met l test.0 test.1 in
    record {
      node = node_of_job (graphs (job_task s x)) (job_after s n x);
      at = there s set graphs R C T x h n k o;
      between = own_between s set graphs R C T x h (certified_task c (job_task s x)) test.0 M n k o;
      within = own_within s set graphs R C T x h (certified_task c (job_task s x)) test.0 M n k o;
    }

pub ledger_reloads_are_own : LedgerReloadsAreOwn
ledger_reloads_are_own s set graphs c n x is_hit A F counts b =
    let R = A.in_range in
    let C = A.code in
    let T = F.tasks in
    let h = F.job in
    let l = task_below s set graphs R C T x h in
    let M = is_met s set graphs R C T c x h (yes_meets set graphs c A.says) l is_hit counts in
    let both = and_parts (is_owner (candidate_at s n) x) _ b in
    reload_is s set graphs R C T x h (certified_task c (job_task s x)) is_hit M n F.unbroken
    (owns_true (candidate_at s n) x both.0) both.1
