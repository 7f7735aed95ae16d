-- For step 7: what the jobs of a busy window may spend is at most the demand.
use Rattle.std.proofs.Common.{◌≡◌, ℕ, ◌+◌, ◌*◌, ◌<◌, ◌≤◌, Bool, true, false, ◌&&◌, length, refl}
use Rattle.std.proofs.Common.{sym, ◌∙◌, ap, subst, inl, inr, arith}
use Rattle.std.specs.Prelude.{◌==◌, nat_lt, nat_le, if◌then◌else◌}
use Rattle.std.proofs.Math.Nat.{mul-le-mul_left}
use Rattle.std.proofs.lemmas.Bool.{cases_Bool, cases_eq, or_cases, and_parts, and_from, eq-eqb}
use Rattle.std.proofs.lemmas.Bool.{eqb-true, ne_eqb, ltb-true, leb-true, lt-ltb, le-leb}
use Rattle.crpd_base.proofs.Sums.{sum_le, sum_add, sum_times, sum_ge, sum_swap, only, sum_only}
use Rattle.crpd_base.specs.declared.data.ScriptJob.{ScriptJob}
use Rattle.crpd_base.specs.declared.data.TaskSet.{TaskSet}
use Rattle.crpd_base.specs.Tasks.{period_of, jitter_of}
use Rattle.crpd_base.specs.Arrivals.{AreApart, AreSpaced, IsReleasedInTime}
use Rattle.preempt_machine.specs.Machine.{no_job}
use Rattle.preempt_machine.specs.Step.{Start}
use Rattle.sound_laws.specs.Walks.{RunsLegally}
use Rattle.crpd_base.specs.Sum.{sum_below}
use Rattle.delay_count.specs.Counts.{jobs_in}
use Rattle.run_account.proofs.Jobs.{line_of, line_is}
use Rattle.sound_laws.proofs.Windows.Rooms.{allowance}
use Rattle.sound_laws.proofs.Windows.Busy.{line_at, task_at, in_window}
use Rattle.sound_laws.proofs.Windows.Releases.{count, one_le, lies_in, few_in_periods, jobs_in_fits}

-- a task's own switch and cost, and each job of a higher task with its cost and two switches
abbrev pub base_demand : TaskSet → ℕ → (ℕ → ℕ) → ℕ → ℕ → ℕ
base_demand set switch cost i window =
    switch + cost i + sum_below
    (λ j. jobs_in (period_of set j) (jitter_of set j) window * (cost j + (switch + switch))) i

-- a job of task j that is released in a window
abbrev pub is_member : Start → ℕ → ℕ → ℕ → ℕ → Bool
is_member s t to j x = (task_at s x == j) && lies_in t to (line_at s x).release

module _ (s : Start) (set : TaskSet) (run : RunsLegally set s) where
  -- a job's times
  pub in_time_at : (x : ℕ) → x < length s.lines
      → ((line_at s x).arrival ≤ (line_at s x).release)
      × ((line_at s x).release ≤ (line_at s x).arrival + jitter_of set (task_at s x))
  in_time_at x h =
      subst (λ (l : ScriptJob). IsReleasedInTime set l) (sym (line_is s 0 x h))
      (run.legal.in_time x no_job.line h)

  pub spaced_at : (x y : ℕ) → x < y → y < length s.lines → task_at s x ≡ task_at s y
      → AreApart (period_of set (task_at s x)) (line_at s x).arrival (line_at s y).arrival
  spaced_at x y l h =
      let hx : x < length s.lines = omega arith in
      subst (λ (a : ScriptJob). AreSpaced set a (line_at s y)) (sym (line_is s 0 x hx))
      (subst (λ (b : ScriptJob). AreSpaced set (line_of s x) b) (sym (line_is s 0 y h))
      (run.legal.spaced x y no_job.line l h))

  apart_by_task : (j x y : ℕ) → x < y → y < length s.lines → (task_at s x == j) ≡ true
      → (task_at s y == j) ≡ true
      → AreApart (period_of set j) ((line_at s x).arrival + jitter_of set j)
      ((line_at s y).arrival + jitter_of set j)
  apart_by_task j x y l h p q =
      let ex : task_at s x ≡ j = eqb-true (task_at s x) j p in
      let ey : task_at s y ≡ j = eqb-true (task_at s y) j q in
      let spaced : AreApart (period_of set j) (line_at s x).arrival (line_at s y).arrival =
      subst (λ k. AreApart (period_of set k) (line_at s x).arrival (line_at s y).arrival) ex
      (spaced_at x y l h (ex ∙ sym ey)) in
      elim spaced [ inl a ↦ inl (omega (arith, a)) | inr a ↦ inr (omega (arith, a)) ]

  -- a member's arrival, plus its jitter, is within the periods that have room for the window
  member_lies : (t w j q x : ℕ) → x < length s.lines → w + jitter_of set j ≤ q * period_of set j
      → is_member s t (t + w) j x ≡ true →
      ((task_at s x == j) && lies_in t (t + q * period_of set j)
      ((line_at s x).arrival + jitter_of set j)) ≡ true
  member_lies t w j q x h room b =
      let both = and_parts (task_at s x == j) (lies_in t (t + w) (line_at s x).release) b in
      let r = and_parts (nat_le t (line_at s x).release)
      (nat_lt (line_at s x).release (t + w)) both.1 in
      let low : t ≤ (line_at s x).release = leb-true t (line_at s x).release r.0 in
      let high : (line_at s x).release < t + w = ltb-true (line_at s x).release (t + w) r.1 in
      let e : task_at s x ≡ j = eqb-true (task_at s x) j both.0 in
      let times : ((line_at s x).arrival ≤ (line_at s x).release)
      × ((line_at s x).release ≤ (line_at s x).arrival + jitter_of set j) =
      subst (λ k. ((line_at s x).arrival ≤ (line_at s x).release)
      × ((line_at s x).release ≤ (line_at s x).arrival + jitter_of set k)) e (in_time_at x h) in
      let above : t ≤ (line_at s x).arrival + jitter_of set j = omega (arith, times.1, low) in
      let under : (line_at s x).arrival + jitter_of set j < t + q * period_of set j =
      omega (arith, times.0, high, room) in
      and_from (task_at s x == j)
      (lies_in t (t + q * period_of set j) ((line_at s x).arrival + jitter_of set j)) both.0
      (and_from (nat_le t ((line_at s x).arrival + jitter_of set j))
      (nat_lt ((line_at s x).arrival + jitter_of set j) (t + q * period_of set j))
      (le-leb t _ above) (lt-ltb _ (t + q * period_of set j) under))

  -- a bound on the number of jobs of a task that are released in a window
  pub releases_few : (t w j : ℕ) → 0 < period_of set j
      → count (is_member s t (t + w) j) (length s.lines)
      ≤ jobs_in (period_of set j) (jitter_of set j) w
  releases_few t w j pos =
      let q = jobs_in (period_of set j) (jitter_of set j) w in
      let few = few_in_periods (λ x. task_at s x == j)
      (λ x. (line_at s x).arrival + jitter_of set j) (length s.lines) (period_of set j) t
      (apart_by_task j) q in
      let room = jobs_in_fits (period_of set j) (jitter_of set j) w pos in
      let le = sum_le (λ x. if is_member s t (t + w) j x then 1 else 0)
      (λ x. if (task_at s x == j) && lies_in t (t + q * period_of set j)
      ((line_at s x).arrival + jitter_of set j) then 1 else 0) (length s.lines)
      (λ x h. one_le (is_member s t (t + w) j x)
      ((task_at s x == j) && lies_in t (t + q * period_of set j)
      ((line_at s x).arrival + jitter_of set j)) (member_lies t w j q x h room)) in
      omega (arith, le, few)

  -- what the jobs of the window may spend
  module _ (cost : ℕ → ℕ) (i t w : ℕ) (below : i < length s.lines)
      (periods : (j : ℕ) → j < task_at s i → 0 < period_of set j) where
    abbrev each : ℕ → ℕ
    each j = cost j + (s.system.platform.switch + s.system.platform.switch)

    abbrev share : ℕ → ℕ → ℕ
    share x j = if is_member s t (t + w) j x then each j else 0

    allowance_le : (x : ℕ) → allowance s (in_window s i t (t + w)) i (λ y. cost (task_at s y)) x
        ≤ only i (s.system.platform.switch + cost (task_at s i)) x + sum_below (share x)
        (task_at s i)
    allowance_le x =
        elim (cases_eq x i) [
          | inl e ↦
              let same : cost (task_at s x) ≡ cost (task_at s i) = ap (λ k. cost (task_at s k)) e in
              let b : (x == i) ≡ true = eq-eqb x i e in
              rw b (omega (arith, same))
          | inr ne ↦
              elim (cases_Bool (in_window s i t (t + w) x)) [
                | inl b ↦
                    elim (or_cases _ _ b) [
                      | inl q ↦ absurd (ne (eqb-true x i q))
                      | inr q ↦
                          let both = and_parts (nat_lt (task_at s x) (task_at s i)) _ q in
                          let higher : task_at s x < task_at s i = ltb-true _ _ both.0 in
                          let member : is_member s t (t + w) (task_at s x) x ≡ true =
                          and_from (task_at s x == task_at s x) _
                          (eq-eqb (task_at s x) (task_at s x) refl) both.1 in
                          let ge = sum_ge (share x) (task_at s i) (task_at s x) higher in
                          let is : share x (task_at s x) ≡ each (task_at s x) = rw member in
                          let away : (x == i) ≡ false = ne_eqb x i ne in
                          rw (b, away) (omega (arith, ge, is))
                    ]
                | inr b ↦ rw b (omega arith)
              ]
        ]

    share_times : (j x : ℕ) → share x j ≡ each j * (if is_member s t (t + w) j x then 1 else 0)
    share_times j x = elim (cases_Bool (is_member s t (t + w) j x)) [
      | inl b ↦ rw b (omega arith)
      | inr b ↦ rw b (omega arith)
    ]

    -- the shares of one task's jobs
    task_share : (j : ℕ) → j < task_at s i
        → sum_below (λ x. share x j) (length s.lines)
        ≤ jobs_in (period_of set j) (jitter_of set j) w * each j
    task_share j h =
        let le = sum_le (λ x. share x j)
        (λ x. each j * (if is_member s t (t + w) j x then 1 else 0)) (length s.lines)
        (λ x l. omega (arith, share_times j x)) in
        let times = sum_times (each j) (λ x. if is_member s t (t + w) j x then 1 else 0)
        (length s.lines) in
        let few = mul-le-mul_left (each j) (releases_few t w j (periods j h)) in
        omega (arith, le, times, few)

    pub allowances_fit : sum_below
        (allowance s (in_window s i t (t + w)) i (λ y. cost (task_at s y))) (length s.lines)
        ≤ base_demand set s.system.platform.switch cost (task_at s i) w
    allowances_fit =
        let le = sum_le (allowance s (in_window s i t (t + w)) i (λ y. cost (task_at s y)))
        (λ x. only i (s.system.platform.switch + cost (task_at s i)) x + sum_below (share x)
        (task_at s i)) (length s.lines) (λ x l. allowance_le x) in
        let two = sum_add (only i (s.system.platform.switch + cost (task_at s i)))
        (λ x. sum_below (share x) (task_at s i)) (length s.lines) in
        let mine = sum_only i (s.system.platform.switch + cost (task_at s i))
        (length s.lines) below in
        let swapped = sum_swap share (length s.lines) (task_at s i) in
        let tasks = sum_le (λ j. sum_below (λ x. share x j) (length s.lines))
        (λ j. jobs_in (period_of set j) (jitter_of set j) w * each j) (task_at s i) task_share in
        omega (arith, le, two, mine, swapped, tasks)
