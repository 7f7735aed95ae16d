-- For step 6: the reloads of a window with their evictors are at most the UCB-union multiset
-- counts.
use Rattle.std.proofs.Common.{◌≡◌, ℕ, suc, ◌+◌, ◌*◌, ◌<◌, ◌≤◌, ◌≢◌, Bool, true, false, ◌&&◌, length}
use Rattle.std.proofs.Common.{refl, sym, ◌∙◌, ap, subst, inl, inr, arith}
use Rattle.std.specs.Prelude.{◌==◌, nat_lt, min, if◌then◌else◌}
use Rattle.std.proofs.Math.Nat.{mul-le-mul_left}
use Rattle.std.proofs.lemmas.Bool.{cases_Bool, cases_eq, false≢true, and_parts, and_from, or_cases}
use Rattle.std.proofs.lemmas.Bool.{eq-eqb, eqb-true, ne_eqb, lt-ltb, ltb-true}
use Rattle.crpd_base.proofs.Sums.{sum_le}
use Rattle.crpd_base.specs.declared.data.TaskSet.{TaskSet}
use Rattle.crpd_base.specs.Tasks.{period_of, jitter_of}
use Rattle.preempt_machine.specs.Step.{Start}
use Rattle.sound_laws.specs.Walks.{RunsLegally}
use Rattle.crpd_base.specs.Sum.{sum_below}
use Rattle.crpd_base.specs.Sets.{has as has_set}
use Rattle.crpd_base.specs.declared.data.Part.{Part}
use Rattle.delay_count.specs.Counts.{jobs_in, preemptions, affected_preemptions}
use Rattle.delay_count.specs.Gamma.{union_count, ucb_count}
use Rattle.sound_laws.proofs.Windows.Releases.{count, count_none, lies_in}
use Rattle.sound_laws.proofs.Counts.Counting.{spread, inject, each_at_most, count_le}
use Rattle.sound_laws.proofs.Windows.Busy.{line_at, task_at, in_window}
use Rattle.sound_laws.proofs.Windows.Demands.{is_member, releases_few}

-- the reloads of a window: steps with a victim inside, and a job inside to which they are charged,
-- of a higher task, and released while the victim is open
pub record AreCharged (s : Start) (window : ℕ → ℕ) (i t to : ℕ) (is_reload : ℕ → Bool)
    (victim charged : ℕ → ℕ) : Type 0 where
  pub victims : (n : ℕ) → n < to → is_reload n ≡ true
      → (victim n < length s.lines) × (in_window s i t to (victim n) ≡ true)
  pub jobs : (n : ℕ) → n < to → is_reload n ≡ true
      → (charged n < length s.lines) × (in_window s i t to (charged n) ≡ true)
  pub higher : (n : ℕ) → n < to → is_reload n ≡ true → task_at s (charged n) < task_at s (victim n)
  pub in_life : (n : ℕ) → n < to → is_reload n ≡ true → task_at s (victim n) < task_at s i
      → lies_in (line_at s (victim n)).release
      ((line_at s (victim n)).release + window (task_at s (victim n)))
      (line_at s (charged n)).release ≡ true

-- each has a cache set that its evictor evicts and its victim finds useful. No two steps have the
-- same evictor and set
pub record HaveSets (s : Start) (parts : ℕ → Part) (to : ℕ) (is_reload : ℕ → Bool)
    (victim evictor cached : ℕ → ℕ) : Type 0 where
  pub places : (n : ℕ) → n < to → is_reload n ≡ true → cached n < 512
  pub is_evicted : (n : ℕ) → n < to → is_reload n ≡ true
      → has_set (parts (task_at s (evictor n))).evicting (cached n) ≡ true
  pub is_useful : (n : ℕ) → n < to → is_reload n ≡ true
      → has_set (parts (task_at s (victim n))).useful (cached n) ≡ true
  pub once : (n m : ℕ) → n < m → m < to → is_reload n ≡ true → is_reload m ≡ true
      → evictor n ≡ evictor m
      → cached n ≡ cached m → ⊥

-- two tests in either order
swap_tests : (a b : Bool) (n : ℕ)
    → (if a && b then n else 0) ≡ (if b then (if a then n else 0) else 0)
swap_tests true true n = refl
swap_tests true false n = refl
swap_tests false true n = refl
swap_tests false false n = refl

-- a job in a window is the window's own job, or a member by its task
pub inside_member : (s : Start) (i t to x : ℕ) → in_window s i t to x ≡ true → x ≢ i
    → is_member s t to (task_at s x) x ≡ true
inside_member s i t to x h ne =
    elim (or_cases _ _ h) [
      | inl q ↦ absurd (ne (eqb-true x i q))
      | inr q ↦
          and_from (task_at s x == task_at s x) _ (eq-eqb (task_at s x) (task_at s x) refl)
          (and_parts _ _ q).1
    ]

pub inside_task : (s : Start) (i t to x : ℕ) → in_window s i t to x ≡ true
    → task_at s x ≤ task_at s i
inside_task s i t to x h =
    elim (or_cases _ _ h) [
      | inl q ↦ let e : task_at s x ≡ task_at s i =
          ap (λ k. task_at s k) (eqb-true x i q) in omega arith
      | inr q ↦ let l : task_at s x < task_at s i = ltb-true _ _ (and_parts _ _ q).0 in omega arith
    ]

-- the job to which a reload is charged is a member by its task
pub charged_member : (s : Start) (window : ℕ → ℕ) (i t : ℕ) (is_reload : ℕ → Bool)
    (victim charged : ℕ → ℕ)
    → AreCharged s window i t (t + window (task_at s i)) is_reload victim charged
    → (j n : ℕ) → n < t + window (task_at s i)
    → (is_reload n && (task_at s (charged n) == j)) ≡ true
    → is_member s t (t + window (task_at s i)) j (charged n) ≡ true
charged_member s window i t is_reload victim charged are j n l b =
    let both = and_parts (is_reload n) (task_at s (charged n) == j) b in
    let is = are.jobs n l both.0 in
    let below = are.higher n l both.0 in
    let top = inside_task s i t (t + window (task_at s i)) (victim n) (are.victims n l both.0).1 in
    subst (λ k. is_member s t (t + window (task_at s i)) k (charged n) ≡ true)
    (eqb-true (task_at s (charged n)) j both.1)
    (inside_member s i t (t + window (task_at s i)) (charged n) is.1
    (λ q. let same : task_at s (charged n) ≡ task_at s i = ap (λ k. task_at s k) q in
    omega arith))

module _ (s : Start) (set : TaskSet) (run : RunsLegally set s) (parts : ℕ → Part) (window : ℕ → ℕ)
    (i t : ℕ) (is_reload : ℕ → Bool) (victim evictor cached : ℕ → ℕ)
    (are : AreCharged s window i t (t + window (task_at s i)) is_reload victim evictor)
    (sets : HaveSets s parts (t + window (task_at s i)) is_reload victim evictor cached)
    (periods : (k : ℕ) → k ≤ task_at s i → 0 < period_of set k) where
  abbrev to : ℕ
  to = t + window (task_at s i)

  abbrev jobs : ℕ → ℕ → ℕ
  jobs j w = jobs_in (period_of set j) (jitter_of set j) w

  -- the reloads with an evictor of a task
  abbrev by_task : ℕ → ℕ → Bool
  by_task j n = is_reload n && (task_at s (evictor n) == j)

  -- the reloads with an evictor of a task and with a cache set
  abbrev by_set : ℕ → ℕ → ℕ → Bool
  by_set j c n = by_task j n && (cached n == c)

  -- the same with a victim of a task
  abbrev by_victim : ℕ → ℕ → ℕ → ℕ → Bool
  by_victim j c k n = by_set j c n && (task_at s (victim n) == k)

  -- the evictors of the reloads of a task and a set are different
  few_evictors : (j c : ℕ) (p : ℕ → Bool) (low w : ℕ) → j ≤ task_at s i
      → ((n : ℕ) → n < to → p n ≡ true → by_set j c n ≡ true)
      → ((n : ℕ) → n < to → p n ≡ true → is_member s low (low + w) j (evictor n) ≡ true)
      → count p to ≤ jobs j w
  few_evictors j c p low w h is member =
      let inj = inject p evictor (is_member s low (low + w) j) to (length s.lines)
      (λ n l b. (are.jobs n l (and_parts _ _ (and_parts _ _ (is n l b)).0).0).0)
      member
      (λ n m l k a b e.
      let pa = and_parts (by_task j n) (cached n == c) (is n (omega arith) a) in
      let pb = and_parts (by_task j m) (cached m == c) (is m k b) in
      sets.once n m l k (and_parts (is_reload n) _ pa.0).0 (and_parts (is_reload m) _ pb.0).0 e
      (eqb-true (cached n) c pa.1 ∙ sym (eqb-true (cached m) c pb.1))) in
      let few = releases_few s set run low w j (periods j h) in
      omega (arith, inj, few)

  -- the first bound: the jobs of the task in the window
  by_jobs : (j c : ℕ) → j ≤ task_at s i → count (by_set j c) to ≤ jobs j (window (task_at s i))
  by_jobs j c h =
      few_evictors j c (by_set j c) t (window (task_at s i)) h (λ n l b. b)
      (λ n l b. charged_member s window i t is_reload victim evictor are j n l
      (and_parts (by_task j n) _ b).0)

  -- the reloads of one victim
  abbrev by_job : ℕ → ℕ → ℕ → ℕ → ℕ → Bool
  by_job j c k x n = by_victim j c k n && (victim n == x)

  one_victim : (j c k x : ℕ) → j ≤ task_at s i → k < task_at s i
      → count (by_job j c k x) to ≤ jobs j (window k)
  one_victim j c k x h hk =
      few_evictors j c (by_job j c k x) (line_at s x).release (window k) h
      (λ n l b. (and_parts (by_set j c n) _ (and_parts (by_victim j c k n) _ b).0).0)
      (λ n l b.
      let vb = and_parts (by_victim j c k n) (victim n == x) b in
      let sb = and_parts (by_set j c n) (task_at s (victim n) == k) vb.0 in
      let tb = and_parts (by_task j n) (cached n == c) sb.0 in
      let eb = and_parts (is_reload n) (task_at s (evictor n) == j) tb.0 in
      let vx : victim n ≡ x = eqb-true (victim n) x vb.1 in
      let vk : task_at s (victim n) ≡ k = eqb-true (task_at s (victim n)) k sb.1 in
      let life = are.in_life n l eb.0 (omega arith) in
      let life_k : lies_in (line_at s (victim n)).release
      ((line_at s (victim n)).release + window k) (line_at s (evictor n)).release ≡ true =
      subst (λ q. lies_in (line_at s (victim n)).release ((line_at s (victim n)).release + window q)
      (line_at s (evictor n)).release ≡ true) vk life in
      and_from (task_at s (evictor n) == j) _ eb.1
      (subst (λ q. lies_in (line_at s q).release ((line_at s q).release + window k)
      (line_at s (evictor n)).release ≡ true) vx life_k))

  -- the reloads whose victims are of a higher task than i's
  by_higher : (j c k : ℕ) → j ≤ task_at s i → k < task_at s i
      → count (by_victim j c k) to ≤ jobs j (window k) * jobs k (window (task_at s i))
  by_higher j c k h hk =
      let all = spread (by_victim j c k) victim to (length s.lines)
      (λ n l b. (are.victims n l (and_parts _ _ (and_parts _ _ (and_parts _ _ b).0).0).0).0) in
      let most = each_at_most (is_member s t to k) (λ x. count (by_job j c k x) to)
      (jobs j (window k)) (length s.lines)
      (λ x l b. one_victim j c k x h hk)
      (λ x l b. count_none (by_job j c k x) to (λ n ln.
      elim (cases_Bool (by_job j c k x n)) [
        | inr q ↦ q
        | inl q ↦
            let vb = and_parts (by_victim j c k n) (victim n == x) q in
            let sb = and_parts (by_set j c n) (task_at s (victim n) == k) vb.0 in
            let eb = and_parts (is_reload n) _ (and_parts (by_task j n) _ sb.0).0 in
            let vx : victim n ≡ x = eqb-true (victim n) x vb.1 in
            let vk : task_at s (victim n) ≡ k = eqb-true (task_at s (victim n)) k sb.1 in
            let member = inside_member s i t to (victim n) (are.victims n ln eb.0).1
            (λ e. let same : task_at s (victim n) ≡ task_at s i = ap (λ z. task_at s z) e in
            omega arith) in
            let member_x : is_member s t to k x ≡ true =
            subst (λ z. is_member s t to k z ≡ true) vx
            (subst (λ z. is_member s t to z (victim n) ≡ true) vk member) in
            absurd (false≢true (sym b ∙ member_x))
      ])) in
      let few = mul-le-mul_left (jobs j (window k))
      (releases_few s set run t (window (task_at s i)) k (periods k (omega arith))) in
      omega (arith, all, most, few)

  -- the second bound: the preemptions of the affected tasks
  by_victims : (j c k : ℕ) → j ≤ task_at s i → k < suc (task_at s i)
      → count (by_victim j c k) to
      ≤ (if nat_lt j k && has_set (parts k).useful c
      then preemptions set window (window (task_at s i)) (task_at s i) j k else 0)
  by_victims j c k h hk =
      elim (cases_Bool (nat_lt j k && has_set (parts k).useful c)) [
        | inr b ↦
            let none = count_none (by_victim j c k) to (λ n l.
            elim (cases_Bool (by_victim j c k n)) [
              | inr q ↦ q
              | inl q ↦
                  let sb = and_parts (by_set j c n) (task_at s (victim n) == k) q in
                  let tb = and_parts (by_task j n) (cached n == c) sb.0 in
                  let eb = and_parts (is_reload n) (task_at s (evictor n) == j) tb.0 in
                  let vk : task_at s (victim n) ≡ k = eqb-true (task_at s (victim n)) k sb.1 in
                  let ej : task_at s (evictor n) ≡ j = eqb-true (task_at s (evictor n)) j eb.1 in
                  let cc' : cached n ≡ c = eqb-true (cached n) c tb.1 in
                  let l' : j < k = let hi = are.higher n l eb.0 in omega arith in
                  let u : has_set (parts k).useful c ≡ true =
                  subst (λ z. has_set (parts k).useful z ≡ true) cc'
                  (subst (λ z. has_set (parts z).useful (cached n) ≡ true) vk
                  (sets.is_useful n l eb.0)) in
                  absurd (false≢true (sym b
                  ∙ and_from (nat_lt j k) (has_set (parts k).useful c) (lt-ltb j k l') u))
            ]) in
            omega (arith, none)
        | inl b ↦
            elim (cases_eq k (task_at s i)) [
              | inl e ↦
                  let le = count_le (by_victim j c k) (by_set j c) to
                  (λ n l q. (and_parts (by_set j c n) _ q).0) in
                  let first = by_jobs j c h in
                  let is : preemptions set window (window (task_at s i)) (task_at s i) j k
                  ≡ jobs j (window (task_at s i)) = rw (eq-eqb k (task_at s i) e) refl in
                  rw b (omega (arith, le, first, is))
              | inr ne ↦
                  let most = by_higher j c k h (omega arith) in
                  let is : preemptions set window (window (task_at s i)) (task_at s i) j k
                  ≡ jobs j (window k) * jobs k (window (task_at s i)) =
                  rw (ne_eqb k (task_at s i) ne) refl in
                  rw b (omega (arith, most, is))
            ]
      ]

  by_preemptions : (j c : ℕ) → j ≤ task_at s i
      → count (by_set j c) to ≤ sum_below
      (λ k. if has_set (parts k).useful c
      then affected_preemptions set window (window (task_at s i)) (task_at s i) j k else 0)
      (suc (task_at s i))
  by_preemptions j c h =
      let all = spread (by_set j c) (λ n. task_at s (victim n)) to (suc (task_at s i))
      (λ n l b. let top = inside_task s i t to (victim n)
      (are.victims n l (and_parts _ _ (and_parts _ _ b).0).0).1 in omega arith) in
      let le = sum_le (λ k. count (by_victim j c k) to)
      (λ k. if has_set (parts k).useful c
      then affected_preemptions set window (window (task_at s i)) (task_at s i) j k else 0)
      (suc (task_at s i)) (λ k l.
      subst (λ n. count (by_victim j c k) to ≤ n)
      (swap_tests (nat_lt j k) (has_set (parts k).useful c)
      (preemptions set window (window (task_at s i)) (task_at s i) j k)) (by_victims j c k h l)) in
      omega (arith, all, le)

  abbrev share : ℕ → ℕ → ℕ
  share j c =
      if has_set (parts j).evicting c then
      min (jobs j (window (task_at s i)))
      (sum_below (λ k. if has_set (parts k).useful c
      then affected_preemptions set window (window (task_at s i)) (task_at s i) j k else 0)
      (suc (task_at s i)))
      else 0

  set_share : (j c : ℕ) → j ≤ task_at s i → count (by_set j c) to ≤ share j c
  set_share j c h =
      elim (cases_Bool (has_set (parts j).evicting c)) [
        | inl b ↦ let one =
            by_jobs j c h in let two = by_preemptions j c h in rw b (omega (arith, one, two))
        | inr b ↦
            let none = count_none (by_set j c) to (λ n l.
            elim (cases_Bool (by_set j c n)) [
              | inr q ↦ q
              | inl q ↦
                  let tb = and_parts (by_task j n) (cached n == c) q in
                  let eb = and_parts (is_reload n) (task_at s (evictor n) == j) tb.0 in
                  let ev : has_set (parts j).evicting c ≡ true =
                  subst (λ z. has_set (parts j).evicting z ≡ true) (eqb-true (cached n) c tb.1)
                  (subst (λ z. has_set (parts z).evicting (cached n) ≡ true)
                  (eqb-true (task_at s (evictor n)) j eb.1) (sets.is_evicted n l eb.0)) in
                  absurd (false≢true (sym b ∙ ev))
            ]) in
            omega (arith, none)
      ]

  all_shares : (j limit : ℕ) → j ≤ task_at s i
      → ((n : ℕ) → n < to → is_reload n ≡ true → cached n < limit)
      → count (by_task j) to ≤ sum_below (share j) limit
  all_shares j limit h places =
      let all = spread (by_task j) cached to limit
      (λ n l b. places n l (and_parts (is_reload n) _ b).0) in
      let le = sum_le (λ c. count (by_set j c) to) (share j) limit (λ c l. set_share j c h) in
      omega (arith, all, le)

  pub task_share : (j : ℕ) → j ≤ task_at s i
      → count (by_task j) to ≤ ucb_count set parts window (window (task_at s i)) (task_at s i) j
  unfolding union_count
  task_share j h = all_shares j 512 h sets.places
