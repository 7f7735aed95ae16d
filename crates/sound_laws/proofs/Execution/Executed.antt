-- Step 5, execution_within_bound: the cycles executed plus those that remain are at most the bound
-- plus the cost of a miss for each reload.
use Rattle.std.proofs.Common.{◌≡◌, ◌≢◌, ℕ, zero, suc, ◌+◌, ◌-◌, ◌*◌, ◌<◌, ◌≤◌, Bool, true, false}
use Rattle.std.proofs.Common.{[], ◌∷◌, length, Some, refl, sym, ◌∙◌, ap, subst, inl, inr, arith}
use Rattle.std.proofs.Common.{◌==◌}
use Rattle.std.proofs.lemmas.Bool.{cases_Bool, cases_eq, eq-eqb, ne_eqb, false≢true, or_parts}
use Rattle.crpd_base.proofs.Options.{same_or_not}
use Rattle.crpd_base.specs.declared.data.TaskSet.{TaskSet}
use Rattle.flow_watch.specs.Watch.{is_unbroken}
use Rattle.flat_graph.specs.Graph.{IsWalk}
use Rattle.loop_regions.specs.Nest.{IsKeptWalk}
use Rattle.loop_regions.specs.TaskGraph.{TaskGraph}
use Rattle.cert_check.specs.JudgeInput.{longest_of}
use Rattle.crpd_base.specs.Sets.{has}
use Rattle.walk_parts.specs.Parts.{WalkPart, IsSoundPart}
use Rattle.sound_laws.specs.Parts.{certified_walks}
use Rattle.evict_sets.specs.ListedPart.{certified_task}
use Rattle.preempt_machine.specs.Machine.{Job}
use Rattle.preempt_machine.specs.Step.{is_open, is_owner, Turn, turn_after_step, turn_of, Start}
use Rattle.preempt_machine.specs.Step.{state}
use Rattle.preempt_machine.specs.Safe.{NamesTasks}
use Rattle.preempt_machine.proofs.Steps.{step_own, step_other}
use Rattle.run_account.specs.Fetches.{job_after}
use Rattle.run_account.proofs.Jobs.{new_at, owns_none}
use Rattle.run_account.proofs.Owners.{candidate_at, was_owner, owns_same}
use Rattle.run_account.proofs.Moves.{never_moved}
use Rattle.run_account.specs.Nodes.{job_task, plan_at, node_of_job}
use Rattle.run_account.specs.Walks.{fetched_nodes}
use Rattle.sound_laws.specs.Walks.{HasTaskRanges, IsCodeOf, before_of}
use Rattle.sound_laws.specs.CyclesToGo.{walk_of, cycles_to_go, rest_of_walk, has_rest}
use Rattle.sound_laws.specs.Execution.{ExecutionWithinBound}
use Rattle.sound_laws.specs.StepTests.{misses_if, executes, is_counted, makes_reload_on, count_below}
use Rattle.run_account.proofs.JobWalks.{kept_before, nodes_other, nodes_own, opened, same_plan}
use Rattle.sound_laws.proofs.Walks.KeptWalks.{ok, hit_some, left_zero, stands_at, task_below}
use Rattle.sound_laws.proofs.Walks.KeptWalks.{walking}
use Rattle.run_account.proofs.Stands.{nodes_after}
use Rattle.sound_laws.proofs.Execution.Spends.{extra_of, go_between, SpendTurn, spend_turn}
use Rattle.sound_laws.proofs.Execution.Spends.{rest_some}
use Rattle.sound_laws.proofs.Execution.Certified.{yes_meets, nested, is_met, certified_sound}

module _ (s : Start) (set : TaskSet) (graphs : ℕ → TaskGraph) (R : HasTaskRanges set)
    (C : IsCodeOf s.system set graphs) (T : NamesTasks set s.lines) where
  module _ (part : WalkPart) (x : ℕ) (h : x < length s.lines)
      (M : IsSoundPart s.system.platform (graphs (job_task s x)) part) where
    abbrev pub go : ℕ → ℕ
    go n =
        cycles_to_go s.system (plan_at s x) (graphs (job_task s x)) part.rest
        (job_after s n x) (fetched_nodes s graphs n x)

    abbrev pub turn_now : ℕ → Turn
    turn_now n = turn_of s.system (state s n) x

    pub spends_at : (n : ℕ) → is_open (job_after s n x).standing ≡ true
        → is_unbroken (job_after s n x).watch ≡ true
        → SpendTurn s.system (plan_at s x) (graphs (job_task s x)) part (turn_now n)
        (fetched_nodes s graphs n x)
        (turn_after_step s.system (state s n).time (turn_now n))
        (nodes_after s.system (graphs (job_task s x)) (turn_now n) (fetched_nodes s graphs n x))
    spends_at n o k =
        let W = (walking s set graphs R C T n x h k).on_walk o in
        spend_turn s.system (plan_at s x) (graphs (job_task s x)) (ok s set graphs R C T x h) C.map
        (hit_some s set graphs R C T) part M
        (state s n).time (turn_now n) (fetched_nodes s graphs n x) W
        (stands_at s set graphs R C T n x h W) (same_plan s graphs n x) o

    pub some_go : (n : ℕ) → is_open (job_after s n x).standing ≡ true
        → is_unbroken (job_after s n x).watch ≡ true → 1 ≤ go n
    some_go n o k = (spends_at n o k).some

    pub some_rest : (n : ℕ) → is_open (job_after s n x).standing ≡ true
        → is_unbroken (job_after s n x).watch ≡ true
        → has_rest s.system (plan_at s x) (job_after s n x) ≡ true
        → 1 ≤ rest_of_walk s.system (plan_at s x) (graphs (job_task s x)) part.rest
        (job_after s n x) (fetched_nodes s graphs n x)
    some_rest n o k =
        let W = (walking s set graphs R C T n x h k).on_walk o in
        rest_some s.system (plan_at s x) (graphs (job_task s x)) (ok s set graphs R C T x h) C.map
        (hit_some s set graphs R C T) part M (turn_now n)
        (fetched_nodes s graphs n x) W (stands_at s set graphs R C T n x h W)
        (same_plan s graphs n x) o

    pub go_other : (n : ℕ) → candidate_at s n ≢ Some x → go (suc n) ≡ go n
    go_other n ne =
        ap (λ (j : Job). cycles_to_go s.system (plan_at s x) (graphs (job_task s x))
        part.rest j (fetched_nodes s graphs (suc n) x))
        (step_other s.system (state s n) x ne)
        ∙ ap (λ b. cycles_to_go s.system (plan_at s x) (graphs (job_task s x)) part.rest
        (job_after s n x) b) (nodes_other s graphs n x ne)

    go_turned : (n : ℕ) → candidate_at s n ≡ Some x
        → go (suc n) ≡ cycles_to_go s.system (plan_at s x) (graphs (job_task s x)) part.rest
        (turn_after_step s.system (state s n).time (turn_now n)).job
        (nodes_after s.system (graphs (job_task s x)) (turn_now n) (fetched_nodes s graphs n x))
    go_turned n e =
        ap (λ (j : Job). cycles_to_go s.system (plan_at s x) (graphs (job_task s x))
        part.rest j (fetched_nodes s graphs (suc n) x)) (step_own s.system (state s n) x e)
        ∙ ap (λ b. cycles_to_go s.system (plan_at s x) (graphs (job_task s x)) part.rest
        (turn_after_step s.system (state s n).time (turn_now n)).job b) (nodes_own s graphs n x e)

    kept_turned : (n : ℕ) → candidate_at s n ≡ Some x
        → is_unbroken (job_after s (suc n) x).watch ≡ true
        → is_unbroken (turn_after_step s.system (state s n).time (turn_now n)).job.watch ≡ true
    kept_turned n e k =
        subst (λ (j : Job). is_unbroken j.watch ≡ true) (step_own s.system (state s n) x e) k

    pub go_own : (n : ℕ) → candidate_at s n ≡ Some x
        → is_unbroken (job_after s (suc n) x).watch ≡ true
        → go (suc n) + (state s (suc n)).switch_left + 1
        ≤ go n + (turn_now n).switch_left + extra_of s.system
        (is_counted s graphs part.counts x n) (turn_now n)
    go_own n e k =
        let o = opened s graphs n x e in
        let t = spends_at n o (kept_before s graphs n x k) in
        let less = t.less (kept_turned n e k) in
        let switch : (state s (suc n)).switch_left
        ≡ (turn_after_step s.system (state s n).time (turn_now n)).switch_left = rw e refl in
        omega (arith, less, switch, go_turned n e)

    pub go_switched : (n : ℕ) → candidate_at s n ≡ Some x
        → is_unbroken (job_after s n x).watch ≡ true → 0 < (turn_now n).switch_left
        → go (suc n) ≡ go n
    go_switched n e k l = go_turned n e ∙ (spends_at n (opened s graphs n x e) k).switched l

    pub short_at : (n : ℕ) → is_unbroken (job_after s n x).watch ≡ true
        → is_open (job_after s n x).standing ≡ true
        → (job_after s n x).left ≤ longest_of s.system.platform (graphs (job_task s x)) - 1
    short_at zero k o = let z = left_zero s set graphs R C T x h in omega (arith, z)
    short_at (suc n) k o =
        let kn = kept_before s graphs n x k in
        elim (same_or_not (candidate_at s n) (Some x)) [
          | inl e ↦
              let op = opened s graphs n x e in
              let t = (spends_at n op kn).short (short_at n kn op) in
              subst (λ (j : Job). j.left ≤ longest_of s.system.platform (graphs (job_task s x)) - 1)
              (sym (step_own s.system (state s n) x e)) t
          | inr ne ↦
              let same = step_other s.system (state s n) x ne in
              subst (λ (j : Job). j.left ≤ longest_of s.system.platform (graphs (job_task s x)) - 1)
              (sym same)
              (short_at n kn (subst (λ (j : Job). is_open j.standing ≡ true) same o))
        ]

    nodes_never : (n : ℕ) → was_owner s n x ≡ false → fetched_nodes s graphs n x ≡ []
    nodes_never zero w = refl
    nodes_never (suc n) w =
        let both = or_parts (is_owner (candidate_at s n) x) (was_owner s n x) w in
        nodes_other s graphs n x (λ e. false≢true (sym both.0 ∙ (rw e (owns_same x))))
        ∙ nodes_never n both.1

    -- at the start at most the bound remains
    pub go_start : is_unbroken (job_after s 0 x).watch ≡ true → go 0 ≤ part.part.bound
    go_start k =
        let t = graphs (job_task s x) in
        let o : is_open (job_after s 0 x).standing ≡ true =
        ap (λ (j : Job). is_open j.standing) (new_at s x h) in
        let W = (walking s set graphs R C T 0 x h k).on_walk o in
        let l = left_zero s set graphs R C T x h in
        let bit : ((job_after s 0 x).left == 0) ≡ true = eq-eqb _ _ l in
        let before : before_of (job_after s 0 x) [] ≡ [] = rw bit refl in
        let walk = subst (λ b. IsWalk t.graph (node_of_job t (job_after s 0 x) ∷ b)) before
        W.walked.walk in
        let kept = subst (λ b. IsKeptWalk t.nest (node_of_job t (job_after s 0 x) ∷ b)) before
        W.walked.kept in
        let first : node_of_job t (job_after s 0 x) ≡ t.graph.first = walk in
        let start = M.start (subst (λ y. IsKeptWalk t.nest (y ∷ [])) first kept) in
        let is = go_between s.system (plan_at s x) t part.rest (job_after s 0 x) [] o l in
        let same : part.rest (walk_of t (job_after s 0 x) [])
        ≡ part.rest (t.graph.first ∷ []) =
        ap (λ b. part.rest (node_of_job t (job_after s 0 x) ∷ b)) before
        ∙ ap (λ y. part.rest (y ∷ [])) first in
        omega (arith, start, is, same)

    pub go_fresh : (n : ℕ) → is_unbroken (job_after s 0 x).watch ≡ true → was_owner s n x ≡ false
        → go n ≤ part.part.bound
    go_fresh n k w =
        let same = ap (λ (j : Job).
        cycles_to_go s.system (plan_at s x) (graphs (job_task s x)) part.rest j
        (fetched_nodes s graphs n x)) (never_moved s n x w) in
        let nodes = ap
        (λ b. cycles_to_go s.system (plan_at s x) (graphs (job_task s x)) part.rest
        (job_after s 0 x) b) (nodes_never n w) in
        let start = go_start k in
        omega (arith, same, nodes, start)

    -- the cycles that it has executed and those that remain
    abbrev entered : ℕ → Bool
    entered = makes_reload_on s graphs part.counts x

    execution_step : (n : ℕ) → is_unbroken (job_after s (suc n) x).watch ≡ true
        → count_below (executes s x) n + go n
        ≤ part.part.bound + s.system.platform.miss * count_below entered n
        → count_below (executes s x) (suc n) + go (suc n)
        ≤ part.part.bound + s.system.platform.miss * count_below entered (suc n)
    execution_step n k so_far =
        elim (same_or_not (candidate_at s n) (Some x)) [
          | inl e ↦
              let mine : is_owner (candidate_at s n) x ≡ true = rw e (owns_same x) in
              elim (cases_eq (turn_now n).switch_left 0) [
                | inl z ↦
                    let bit : ((turn_now n).switch_left == 0) ≡ true = eq-eqb _ _ z in
                    let one : executes s x n ≡ true = rw (mine, bit) refl in
                    let less = go_own n e k in
                    elim (cases_Bool
                    (misses_if s.system (is_counted s graphs part.counts x n) (turn_now n))) [
                      | inl b ↦
                          let ent : entered n ≡ true = rw (mine, b) refl in
                          let extra : extra_of s.system (is_counted s graphs part.counts x n) (turn_now n)
                          ≡ s.system.platform.miss = rw b refl in
                          rw (one, ent) (omega (arith, less, so_far, extra, z))
                      | inr b ↦
                          let ent : entered n ≡ false = rw (mine, b) refl in
                          let extra : extra_of s.system (is_counted s graphs part.counts x n) (turn_now n)
                          ≡ 0 = rw b refl in
                          rw (one, ent) (omega (arith, less, so_far, extra, z))
                    ]
                | inr ne ↦
                    let bit : ((turn_now n).switch_left == 0) ≡ false = ne_eqb _ _ ne in
                    let none : executes s x n ≡ false = rw (mine, bit) refl in
                    let ent : entered n ≡ false = rw (mine, bit) refl in
                    let same = go_switched n e (kept_before s graphs n x k) (omega arith) in
                    rw (none, ent) (omega (arith, same, so_far))
              ]
          | inr ne ↦
              let other : is_owner (candidate_at s n) x ≡ false =
              owns_none (candidate_at s n) x ne in
              let none : executes s x n ≡ false = rw other refl in
              let ent : entered n ≡ false = rw other refl in
              let same = go_other n ne in
              rw (none, ent) (omega (arith, same, so_far))
        ]

    pub execution : (n : ℕ) → is_unbroken (job_after s n x).watch ≡ true
        → count_below (executes s x) n + go n
        ≤ part.part.bound + s.system.platform.miss * count_below entered n
    execution zero k = let start = go_start k in omega (arith, start)
    execution (suc n) k = execution_step n k (execution n (kept_before s graphs n x k))

pub execution_within_bound : ExecutionWithinBound
execution_within_bound s set graphs c n x is_hit A F counts =
    let R = A.in_range in
    let C = A.code in
    let T = F.tasks in
    let part = certified_task c (job_task s x) in
    let l = task_below s set graphs R C T x F.job in
    let M = is_met s set graphs R C T c x F.job (yes_meets set graphs c A.says) l is_hit counts in
    let S = certified_sound s.system.platform (graphs (job_task s x)) part is_hit
    (λ y z. has part.part.useful z) M (C.graphs_of (job_task s x) l).follows.graph
    (nested s set graphs R C T x F.job)
    (λ y z below f. (M.all.sets.sets y below).all z f) (λ y z below b. b) in
    let w = certified_walks (graphs (job_task s x)) part is_hit (λ y z. has part.part.useful z) in
    record {
      within = execution s set graphs R C T w x F.job S n F.unbroken;
      rest = λ o. some_rest s set graphs R C T w x F.job S n o F.unbroken;
    }
