-- For step 6: the reloads of a window with their preemptors are at most the largest sums over
-- choices of preempted jobs, given a bound on the reloads of one preemptor.
use Rattle.std.proofs.Common.{◌≡◌, ℕ, suc, ◌+◌, ◌*◌, ◌<◌, ◌≤◌, Bool, true, ◌&&◌, length, refl}
use Rattle.std.proofs.Common.{sym, ◌∙◌, ap, subst, inl, inr, arith, ◌==◌, nat_lt, if◌then◌else◌}
use Rattle.std.proofs.Math.Nat.{mul-le-mul_left}
use Rattle.std.proofs.lemmas.Bool.{cases_Bool, cases_eq, false≢true, and_parts, and_from}
use Rattle.std.proofs.lemmas.Bool.{eq-eqb, eqb-true, ne_eqb, lt-ltb}
use Rattle.crpd_base.proofs.Sums.{sum_le, sum_times, sum_swap}
use Rattle.crpd_base.specs.declared.data.TaskSet.{TaskSet}
use Rattle.crpd_base.specs.Tasks.{period_of, jitter_of}
use Rattle.preempt_machine.specs.Step.{Start}
use Rattle.run_account.proofs.LastBelow.{some_below, found_below, found_is, some_from}
use Rattle.sound_laws.specs.Walks.{RunsLegally}
use Rattle.crpd_base.specs.Sum.{sum_below}
use Rattle.delay_count.specs.Counts.{jobs_in, preemptions, affected_preemptions}
use Rattle.delay_count.specs.Gamma.{greatest_choice}
use Rattle.delay_count.proofs.Choices.{choice_most}
use Rattle.sound_laws.proofs.Windows.Releases.{count, count_none, at_most_one, lies_in}
use Rattle.sound_laws.proofs.Counts.Counting.{spread, each_at_most, count_le}
use Rattle.sound_laws.proofs.Windows.Busy.{line_at, task_at}
use Rattle.sound_laws.proofs.Windows.Demands.{is_member, releases_few}
use Rattle.sound_laws.proofs.Delays.UnionCount.{AreCharged, charged_member, inside_member}
use Rattle.sound_laws.proofs.Delays.UnionCount.{inside_task}

-- all reloads of a preemptor have one victim, and if the preemptor is of task j and the victim of
-- task k they are at most `most j k`
pub record ArePreempted (s : Start) (most : ℕ → ℕ → ℕ) (to : ℕ) (is_reload : ℕ → Bool)
    (victim preemptor : ℕ → ℕ) : Type 0 where
  pub one_job : (n m : ℕ) → n < to → m < to → is_reload n ≡ true → is_reload m ≡ true
      → preemptor n ≡ preemptor m → victim n ≡ victim m
  pub few : (p k : ℕ) → count (λ n.
      (is_reload n && (preemptor n == p)) && (task_at s (victim n) == k)) to ≤ most (task_at s p) k

module _ (s : Start) (set : TaskSet) (run : RunsLegally set s) (most : ℕ → ℕ → ℕ) (window : ℕ → ℕ)
    (i t : ℕ) (is_reload : ℕ → Bool) (victim preemptor : ℕ → ℕ)
    (are : AreCharged s window i t (t + window (task_at s i)) is_reload victim preemptor)
    (by : ArePreempted s most (t + window (task_at s i)) is_reload victim preemptor)
    (periods : (k : ℕ) → k ≤ task_at s i → 0 < period_of set k) where
  abbrev to : ℕ
  to = t + window (task_at s i)

  abbrev jobs : ℕ → ℕ → ℕ
  jobs j w = jobs_in (period_of set j) (jitter_of set j) w

  -- the reloads of a preemptor whose victim is of a task
  abbrev of_pair : ℕ → ℕ → ℕ → Bool
  of_pair p k n = (is_reload n && (preemptor n == p)) && (task_at s (victim n) == k)

  -- whether the job p of task j has such a reload
  abbrev has : ℕ → ℕ → ℕ → Bool
  has j k p = (task_at s p == j) && some_below (of_pair p k) to

  abbrev at : ℕ → ℕ → ℕ
  at k p = found_below (of_pair p k) to

  -- what holds of the reload that is found
  record Found (j k p : ℕ) : Type 0 where
    early : at k p < to
    reload : is_reload (at k p) ≡ true
    is_preemptor : preemptor (at k p) ≡ p
    is_victim : task_at s (victim (at k p)) ≡ k
    is_task : task_at s p ≡ j

  found : (j k p : ℕ) → has j k p ≡ true → Found j k p
  found j k p h =
      let both = and_parts (task_at s p == j) (some_below (of_pair p k) to) h in
      let f = found_is (of_pair p k) to both.1 in
      let pair = and_parts (is_reload (at k p) && (preemptor (at k p) == p))
      (task_at s (victim (at k p)) == k) f.1 in
      let one = and_parts (is_reload (at k p)) (preemptor (at k p) == p) pair.0 in
      record {
        early = f.0;
        reload = one.0;
        is_preemptor = eqb-true _ _ one.1;
        is_victim = eqb-true _ _ pair.1;
        is_task = eqb-true _ _ both.0;
      }

  has_member : (j k p : ℕ) → has j k p ≡ true → is_member s t to j p ≡ true
  has_member j k p h =
      let f = found j k p h in
      subst (λ q. is_member s t to j q ≡ true) f.is_preemptor
      (charged_member s window i t is_reload victim preemptor are j (at k p) f.early
      (and_from (is_reload (at k p)) _ f.reload
      (eq-eqb _ _ (ap (λ q. task_at s q) f.is_preemptor ∙ f.is_task))))

  -- how many jobs of j preempt jobs of k
  abbrev choice : ℕ → ℕ → ℕ
  choice j k = count (has j k) (length s.lines)

  -- one preemptor preempts jobs of one task
  one_task : (j p : ℕ) → count (λ k. has j k p) (suc (task_at s i)) ≤ 1
  one_task j p = at_most_one (λ k. has j k p) (suc (task_at s i)) (λ k m l h a b.
      let f = found j k p a in
      let g = found j m p b in
      let same = by.one_job (at k p) (at m p) f.early g.early f.reload g.reload
      (f.is_preemptor ∙ sym g.is_preemptor) in
      let e : k ≡ m = sym f.is_victim ∙ ap (λ q. task_at s q) same ∙ g.is_victim in
      omega arith)

  choice_all : (j : ℕ) → j ≤ task_at s i
      → sum_below (choice j) (suc (task_at s i)) ≤ jobs j (window (task_at s i))
  choice_all j h =
      let swapped = sum_swap (λ k p. if has j k p then 1 else 0) (suc (task_at s i))
      (length s.lines) in
      let each = each_at_most (is_member s t to j) (λ p. count (λ k. has j k p) (suc (task_at s i)))
      1 (length s.lines)
      (λ p l m. one_task j p)
      (λ p l m. count_none (λ k. has j k p) (suc (task_at s i))
      (λ k lk. elim (cases_Bool (has j k p)) [
        | inl q ↦ absurd (false≢true (sym m ∙ has_member j k p q))
        | inr q ↦ q
      ])) in
      let few = releases_few s set run t (window (task_at s i)) j (periods j h) in
      omega (arith, swapped, each, few)

  -- the jobs of j that preempt one victim
  of_victim : (j k x : ℕ) → j ≤ task_at s i → k < task_at s i
      → count (λ p. has j k p && (victim (at k p) == x)) (length s.lines) ≤ jobs j (window k)
  of_victim j k x h hk =
      let le = count_le (λ p. has j k p && (victim (at k p) == x))
      (is_member s (line_at s x).release ((line_at s x).release + window k) j)
      (length s.lines) (λ p l b.
      let both = and_parts (has j k p) (victim (at k p) == x) b in
      let f = found j k p both.0 in
      let vx : victim (at k p) ≡ x = eqb-true _ _ both.1 in
      let life = are.in_life (at k p) f.early f.reload (let e = f.is_victim in omega arith) in
      let life_k : lies_in (line_at s (victim (at k p))).release
      ((line_at s (victim (at k p))).release + window k) (line_at s (preemptor (at k p))).release
      ≡ true =
      subst (λ q. lies_in (line_at s (victim (at k p))).release
      ((line_at s (victim (at k p))).release + window q) (line_at s (preemptor (at k p))).release
      ≡ true) f.is_victim life in
      let life_x = subst (λ q.
      lies_in (line_at s q).release ((line_at s q).release + window k)
      (line_at s (preemptor (at k p))).release ≡ true) vx life_k in
      let life_p = subst (λ q.
      lies_in (line_at s x).release ((line_at s x).release + window k) (line_at s q).release ≡ true)
      f.is_preemptor life_x in
      and_from (task_at s p == j) _ (eq-eqb _ _ f.is_task) life_p) in
      let few = releases_few s set run (line_at s x).release (window k) j (periods j h) in
      omega (arith, le, few)

  choice_higher : (j k : ℕ) → j ≤ task_at s i → k < task_at s i
      → choice j k ≤ jobs j (window k) * jobs k (window (task_at s i))
  choice_higher j k h hk =
      let all = spread (has j k) (λ p. victim (at k p)) (length s.lines) (length s.lines)
      (λ p l b. let f = found j k p b in (are.victims (at k p) f.early f.reload).0) in
      let most = each_at_most (is_member s t to k)
      (λ x. count (λ p. has j k p && (victim (at k p) == x)) (length s.lines)) (jobs j (window k))
      (length s.lines)
      (λ x l b. of_victim j k x h hk)
      (λ x l b. count_none (λ p. has j k p && (victim (at k p) == x)) (length s.lines) (λ p lp.
      elim (cases_Bool (has j k p && (victim (at k p) == x))) [
        | inr q ↦ q
        | inl q ↦
            let both = and_parts (has j k p) (victim (at k p) == x) q in
            let f = found j k p both.0 in
            let vx : victim (at k p) ≡ x = eqb-true _ _ both.1 in
            let member = inside_member s i t to (victim (at k p))
            (are.victims (at k p) f.early f.reload).1
            (λ e. let same : task_at s (victim (at k p)) ≡ task_at s i = ap (λ z. task_at s z) e in
            let v = f.is_victim in omega arith) in
            let member_x : is_member s t to k x ≡ true =
            subst (λ z. is_member s t to k z ≡ true) vx
            (subst (λ z. is_member s t to z (victim (at k p)) ≡ true) f.is_victim member) in
            absurd (false≢true (sym b ∙ member_x))
      ])) in
      let few = mul-le-mul_left (jobs j (window k))
      (releases_few s set run t (window (task_at s i)) k (periods k (omega arith))) in
      omega (arith, all, most, few)

  choice_each : (j k : ℕ) → j ≤ task_at s i → k ≤ task_at s i
      → choice j k ≤ (if nat_lt j k
      then preemptions set window (window (task_at s i)) (task_at s i) j k else 0)
  choice_each j k h hk =
      elim (cases_Bool (nat_lt j k)) [
        | inr b ↦
            let none = count_none (has j k) (length s.lines) (λ p l. elim (cases_Bool (has j k p)) [
              | inr q ↦ q
              | inl q ↦
                  let f = found j k p q in
                  let up = are.higher (at k p) f.early f.reload in
                  let tp : task_at s (preemptor (at k p)) ≡ j =
                  ap (λ z. task_at s z) f.is_preemptor ∙ f.is_task in
                  let v = f.is_victim in
                  absurd (false≢true (sym b ∙ lt-ltb j k (omega arith)))
            ]) in
            omega (arith, none)
        | inl b ↦
            elim (cases_eq k (task_at s i)) [
              | inl e ↦
                  let le = count_le (has j k) (is_member s t to j) (length s.lines)
                  (λ p l q. has_member j k p q) in
                  let few = releases_few s set run t (window (task_at s i)) j (periods j h) in
                  let is : preemptions set window (window (task_at s i)) (task_at s i) j k
                  ≡ jobs j (window (task_at s i)) = rw (eq-eqb k (task_at s i) e) refl in
                  rw b (omega (arith, le, few, is))
              | inr ne ↦
                  let most = choice_higher j k h (omega arith) in
                  let is : preemptions set window (window (task_at s i)) (task_at s i) j k
                  ≡ jobs j (window k) * jobs k (window (task_at s i)) =
                  rw (ne_eqb k (task_at s i) ne) refl in
                  rw b (omega (arith, most, is))
            ]
      ]

  -- the reloads with a preemptor of a task
  abbrev by_task : ℕ → ℕ → Bool
  by_task j n = is_reload n && (task_at s (preemptor n) == j)

  -- for one preemptor and one task of victims: none, or at most the bound of these tasks
  pair_le : (j k p : ℕ) → count
      (λ n. ((by_task j n) && (preemptor n == p)) && (task_at s (victim n) == k)) to
      ≤ most j k * (if has j k p then 1 else 0)
  pair_le j k p =
      let le = count_le (λ n. ((by_task j n) && (preemptor n == p)) && (task_at s (victim n) == k))
      (of_pair p k) to (λ n l b.
      let one = and_parts (by_task j n && (preemptor n == p)) (task_at s (victim n) == k) b in
      let two = and_parts (by_task j n) (preemptor n == p) one.0 in
      let three = and_parts (is_reload n) (task_at s (preemptor n) == j) two.0 in
      and_from (is_reload n && (preemptor n == p)) (task_at s (victim n) == k)
      (and_from (is_reload n) (preemptor n == p) three.0 two.1) one.1) in
      elim (cases_Bool (has j k p)) [
        | inl b ↦
            let few = by.few p k in
            let same = ap (λ q. most q k) (found j k p b).is_task in
            rw b (omega (arith, le, few, same))
        | inr b ↦
            let none = count_none (λ n.
            ((by_task j n) && (preemptor n == p)) && (task_at s (victim n) == k)) to
            (λ n l. elim (cases_Bool
            (((by_task j n) && (preemptor n == p)) && (task_at s (victim n) == k))) [
              | inr q ↦ q
              | inl q ↦
                  let one = and_parts (by_task j n && (preemptor n == p))
                  (task_at s (victim n) == k) q in
                  let two = and_parts (by_task j n) (preemptor n == p) one.0 in
                  let three = and_parts (is_reload n) (task_at s (preemptor n) == j) two.0 in
                  let pj : task_at s p ≡ j =
                  ap (λ z. task_at s z) (sym (eqb-true (preemptor n) p two.1))
                  ∙ eqb-true _ _ three.1 in
                  let there : has j k p ≡ true =
                  and_from (task_at s p == j) (some_below (of_pair p k) to) (eq-eqb _ _ pj)
                  (some_from (of_pair p k) to n l
                  (and_from (is_reload n && (preemptor n == p)) (task_at s (victim n) == k)
                  (and_from (is_reload n) (preemptor n == p) three.0 two.1) one.1)) in
                  absurd (false≢true (sym b ∙ there))
            ]) in
            omega (arith, none)
      ]

  task_count : (j : ℕ) → j ≤ task_at s i
      → count (by_task j) to ≤ sum_below (λ k. most j k * choice j k)
      (suc (task_at s i))
  task_count j h =
      let all = spread (by_task j) preemptor to (length s.lines)
      (λ n l b. (are.jobs n l (and_parts (is_reload n) _ b).0).0) in
      let split = sum_le (λ p. count (λ n. by_task j n && (preemptor n == p)) to)
      (λ p. sum_below (λ k. most j k * (if has j k p then 1 else 0))
      (suc (task_at s i))) (length s.lines) (λ p l.
      let by_victims = spread (λ n. by_task j n && (preemptor n == p)) (λ n. task_at s (victim n))
      to (suc (task_at s i)) (λ n ln b.
      let top = inside_task s i t to (victim n)
      (are.victims n ln (and_parts (is_reload n) _ (and_parts (by_task j n) _ b).0).0).1 in
      omega arith) in
      let le = sum_le
      (λ k. count (λ n. (by_task j n && (preemptor n == p)) && (task_at s (victim n) == k)) to)
      (λ k. most j k * (if has j k p then 1 else 0)) (suc (task_at s i))
      (λ k lk. pair_le j k p) in
      omega (arith, by_victims, le)) in
      let swapped = sum_swap (λ p k. most j k * (if has j k p then 1 else 0))
      (length s.lines) (suc (task_at s i)) in
      let times = sum_le (λ k.
      sum_below (λ p. most j k * (if has j k p then 1 else 0)) (length s.lines))
      (λ k. most j k * choice j k) (suc (task_at s i)) (λ k l.
      let e = sum_times (most j k) (λ p. if has j k p then 1 else 0)
      (length s.lines) in omega (arith, e)) in
      omega (arith, all, split, swapped, times)

  -- the reloads with a preemptor of a task are at most the largest choice
  pub task_choice : (j : ℕ) → j ≤ task_at s i
      → count (by_task j) to ≤ greatest_choice (most j)
      (affected_preemptions set window (window (task_at s i)) (task_at s i) j) (suc (task_at s i))
      (jobs j (window (task_at s i)))
  task_choice j h =
      let c = task_count j h in
      let b = choice_most (most j)
      (affected_preemptions set window (window (task_at s i)) (task_at s i) j) (choice j)
      (suc (task_at s i)) (jobs j (window (task_at s i)))
      (λ k l. choice_each j k h (omega arith)) (choice_all j h) in
      omega (arith, c, b)
