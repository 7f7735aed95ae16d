-- For step 7: the busy window of a job. From the last time at which all jobs of higher tasks had
-- ended, only the job and jobs of higher tasks that were released since then are candidates.
use Rattle.std.proofs.Common.{◌≡◌, ℕ, zero, suc, ◌<◌, ◌≤◌, ◌≢◌, ◌⊎◌, Bool, true, false, ◌||◌, ◌&&◌}
use Rattle.std.proofs.Common.{length, Option, Some, None, refl, sym, ◌∙◌, ap, subst, inl, inr}
use Rattle.std.proofs.Common.{arith, ◌==◌, nat_lt, nat_le}
use Rattle.std.proofs.lemmas.Bool.{cases_Bool, cases_eq, cases_lt, false≢true, or_cases, or_left}
use Rattle.std.proofs.lemmas.Bool.{or_right, or_parts, and_parts, and_from, eq-eqb, eqb-true}
use Rattle.std.proofs.lemmas.Bool.{ltb-true, leb-true, lt-ltb, le-ltb, le-leb}
use Rattle.std.proofs.lemmas.Bool.Decides.{nat_tests}
use Rattle.crpd_base.proofs.Options.{some_injective, none_some}
use Rattle.crpd_base.specs.declared.data.ScriptJob.{ScriptJob}
use Rattle.preempt_machine.specs.Step.{is_open, is_ready, comes_before, Start, state}
use Rattle.preempt_machine.proofs.Steps.{WhyFirst, candidate_some, candidate_none, ready_open}
use Rattle.preempt_machine.proofs.Steps.{ready_released}
use Rattle.preempt_machine.proofs.Runs.{state_time, state_line}
use Rattle.run_account.specs.Fetches.{job_after}
use Rattle.run_account.proofs.Jobs.{jobs_length}
use Rattle.run_account.proofs.Owners.{candidate_at, was_owner, was_open, was_released, owner_after}
use Rattle.run_account.proofs.Owners.{ready_at, first_at}
use Rattle.sound_laws.proofs.Windows.Rooms.{Covers}

-- the script's line of a job
abbrev pub line_at : Start → ℕ → ScriptJob
line_at s x = (job_after s 0 x).line

abbrev pub task_at : Start → ℕ → ℕ
task_at s x = (line_at s x).task.0

pub before_task : (a : ScriptJob) (x : ℕ) (b : ScriptJob) (y : ℕ) → comes_before a x b y ≡ true
    → a.task.0 ≤ b.task.0
unfolding comes_before
before_task a x b y h = grind (arith, nat_tests)

-- whether a job of a higher task than i's, released before t, is open at t
abbrev pub is_busy_by : Start → ℕ → ℕ → ℕ → Bool
is_busy_by s i t x =
    nat_lt (task_at s x) (task_at s i)
    && (nat_lt (line_at s x).release t && is_open (job_after s t x).standing)

-- whether there is one among the first n
abbrev pub is_busy : Start → ℕ → ℕ → ℕ → Bool
is_busy s i t zero = false
is_busy s i t (suc n) = is_busy_by s i t n || is_busy s i t n

busy_some : (s : Start) (i t n : ℕ) → is_busy s i t n ≡ true
    → (x : ℕ) × (x < n) × (is_busy_by s i t x ≡ true)
busy_some s i t zero h = absurd (false≢true h)
busy_some s i t (suc n) h =
    elim (or_cases _ _ h) [
      | inl b ↦ (n, omega arith, b)
      | inr b ↦ let r = busy_some s i t n b in (r.0, omega (arith, r.1), r.2)
    ]

pub busy_none : (s : Start) (i t n x : ℕ) → is_busy s i t n ≡ false → x < n
    → is_busy_by s i t x ≡ false
busy_none s i t zero x h l = absurd (omega arith)
busy_none s i t (suc n) x h l =
    let both = or_parts (is_busy_by s i t n) (is_busy s i t n) h in
    elim (cases_eq n x) [
      | inl e ↦ subst (λ k. is_busy_by s i t k ≡ false) e both.0
      | inr ne ↦ busy_none s i t n x both.1 (omega arith)
    ]

pub all_quiet : (s : Start) (i t n : ℕ) → ((x : ℕ) → x < n → is_busy_by s i t x ≡ false)
    → is_busy s i t n ≡ false
all_quiet s i t zero h = refl
all_quiet s i t (suc n) h = rw (h n (omega arith)) (all_quiet s i t n (λ x l. h x (omega arith)))

pub some_busy : (s : Start) (i t n x : ℕ) → x < n → is_busy_by s i t x ≡ true
    → is_busy s i t n ≡ true
some_busy s i t zero x l h = absurd (omega arith)
some_busy s i t (suc n) x l h =
    elim (cases_eq x n) [
      | inl e ↦
          or_left (is_busy_by s i t n) (is_busy s i t n)
          (subst (λ k. is_busy_by s i t k ≡ true) e h)
      | inr ne ↦
          or_right (is_busy_by s i t n) (is_busy s i t n) (some_busy s i t n x (omega arith) h)
    ]

never_at_zero : (s : Start) (i n : ℕ) → is_busy s i 0 n ≡ false
never_at_zero s i zero = refl
never_at_zero s i (suc n) =
    let none : nat_lt (line_at s n).release 0 ≡ false =
    le-ltb (line_at s n).release 0 (omega arith) in
    let here : is_busy_by s i 0 n ≡ false = elim (cases_Bool (nat_lt (task_at s n) (task_at s i))) [
      | inl b ↦ rw (b, none) refl
      | inr b ↦ rw b refl
    ] in
    rw here (never_at_zero s i n)

-- the last time up to r at which no job of a higher task was busy
pub record IsLastQuiet (s : Start) (i r t : ℕ) : Type 0 where
  pub by : t ≤ r
  pub quiet : is_busy s i t (length s.lines) ≡ false
  pub busy : (u : ℕ) → t < u → u ≤ r → is_busy s i u (length s.lines) ≡ true

pub last_quiet : (s : Start) (i r : ℕ) → (t : ℕ) × IsLastQuiet s i r t
last_quiet s i zero = (
  0,
  record {
    by = omega arith;
    quiet = never_at_zero s i (length s.lines);
    busy = λ u l h. absurd (omega arith);
  },
)
last_quiet s i (suc r) =
    elim (cases_Bool (is_busy s i (suc r) (length s.lines))) [
      | inl b ↦
          let before = last_quiet s i r in (
            before.0,
            record {
              by = omega (arith, before.1.by);
              quiet = before.1.quiet;
              busy = λ u l h. elim (cases_eq (suc r) u) [
                | inl e ↦ subst (λ k. is_busy s i k (length s.lines) ≡ true) e b
                | inr ne ↦ before.1.busy u l (omega arith)
              ];
            },
          )
      | inr b ↦
          (suc r, record { by = omega arith; quiet = b; busy = λ u l h. absurd (omega arith) })
    ]

-- the jobs of a window: i, and those of higher tasks that are released in it
abbrev pub in_window : Start → ℕ → ℕ → ℕ → ℕ → Bool
in_window s i t to x =
    (x == i)
    || (nat_lt (task_at s x) (task_at s i)
    && (nat_le t (line_at s x).release && nat_lt (line_at s x).release to))

module _ (s : Start) (i t to : ℕ) (below : i < length s.lines)
    (last : IsLastQuiet s i (line_at s i).release t) where
  -- an open job of a higher task that was released is one of the window
  higher_inside : (n y : ℕ) → t ≤ n → n < to → y < length s.lines → task_at s y < task_at s i
      → (line_at s y).release ≤ n → is_open (job_after s n y).standing ≡ true
      → in_window s i t to y ≡ true
  higher_inside n y f l b h r o =
      let late : t ≤ (line_at s y).release =
      elim (cases_lt (line_at s y).release t) [
        | inl early ↦
            let open_then = was_open s t n y f o in
            let busy : is_busy_by s i t y ≡ true = rw (lt-ltb _ _ h, lt-ltb _ _ early) open_then in
            absurd (false≢true (sym (busy_none s i t (length s.lines) y last.quiet b) ∙ busy))
        | inr g ↦ g
      ] in
      or_right (y == i) _
      (and_from _ _ (lt-ltb _ _ h) (and_from _ _ (le-leb _ _ late) (lt-ltb _ _ (omega arith))))

  -- before i's release a job of a higher task is ready
  busy_ready : (n : ℕ) → t ≤ n → n < (line_at s i).release
      → (x : ℕ) × (task_at s x < task_at s i) × (is_ready (state s n).time (job_after s n x) ≡ true)
  busy_ready n f l =
      let some = busy_some s i (suc n) (length s.lines)
      (last.busy (suc n) (omega arith) (omega arith)) in
      let both = and_parts _ _ some.2 in
      let more = and_parts _ _ both.1 in
      let r : (line_at s some.0).release < suc n = ltb-true _ _ more.0 in (
        some.0,
        ltb-true _ _ both.0,
        ready_at s n some.0 (was_open s n (suc n) some.0 (omega arith) more.1) (omega arith),
      )

  -- no other job of i's task is ready after i's release
  abbrev NoOther : Type 0
  NoOther =
      (n x : ℕ) → (line_at s i).release ≤ n → n < to → x ≢ i → task_at s x ≡ task_at s i
      → is_ready (state s n).time (job_after s n x) ≡ false

  -- the candidate that comes before all other ready jobs, if a job is ready that is i or of a
  -- higher task
  first_inside : (n z y : ℕ) → candidate_at s n ≡ Some y → t ≤ n → n < to
      → is_ready (state s n).time (job_after s n z) ≡ true
      → (z ≡ i) × ((line_at s i).release ≤ n) ⊎ (task_at s z < task_at s i) → NoOther
      → WhyFirst s.system (state s n) y → in_window s i t to y ≡ true
  first_inside n z y e f l r kind no_other why =
      let is = candidate_some s.system (state s n) y e in
      let y_open = ready_open (state s n).time (job_after s n y) is.ready in
      let y_released : (line_at s y).release ≤ n =
      rw (state_line s n y, state_time s n) at
      (ready_released (state s n).time (job_after s n y) is.ready) in
      let y_below : y < length s.lines = omega (arith, is.below, jobs_length s n) in
      let task_le : task_at s y ≤ task_at s z = elim (first_at s n y z e why r) [
        | inl q ↦ rw q (omega arith)
        | inr b ↦ before_task _ _ _ _ b
      ] in
      elim (cases_lt (task_at s y) (task_at s i)) [
        | inl h ↦ higher_inside n y f l y_below h y_released y_open
        | inr g ↦ elim kind [
          | inl mine ↦ elim (cases_eq y i) [
            | inl q ↦ or_left (y == i) _ (eq-eqb y i q)
            | inr ne ↦
                let same : task_at s y ≡ task_at s i =
                let up : task_at s z ≡ task_at s i = ap (λ k. task_at s k) mine.0 in omega arith in
                absurd (false≢true (sym (no_other n y mine.1 l ne same) ∙ is.ready))
          ]
          | inr high ↦ absurd (omega arith)
        ]
      ]

  -- the candidate, if such a job is ready
  inside_by : (n z : ℕ) (c : Option ℕ) → candidate_at s n ≡ c → t ≤ n → n < to
      → is_ready (state s n).time (job_after s n z) ≡ true
      → (z ≡ i) × ((line_at s i).release ≤ n) ⊎ (task_at s z < task_at s i) → NoOther
      → ((y : ℕ) → candidate_at s n ≡ Some y
      → WhyFirst s.system (state s n) y ⊎ (in_window s i t to y ≡ true))
      → (y : ℕ) × (candidate_at s n ≡ Some y) × (in_window s i t to y ≡ true)
  inside_by n z None e f l r kind no_other takes =
      absurd (false≢true (sym (candidate_none s.system (state s n) e z) ∙ r))
  inside_by n z (Some y) e f l r kind no_other takes =
      elim (takes y e) [
        | inl why ↦ (y, e, first_inside n z y e f l r kind no_other why)
        | inr in_it ↦ (y, e, in_it)
      ]

  -- after a front of steps by a job that owned the core before, a candidate comes before all
  -- others, or continues
  pub record HasFront (from : ℕ) : Type 0 where
    pub after : t ≤ from
    pub old : (n y : ℕ) → t ≤ n → n < from → candidate_at s n ≡ Some y → was_owner s t y ≡ true
    pub takes : (n y : ℕ) → from ≤ n → candidate_at s n ≡ Some y
        → WhyFirst s.system (state s n) y ⊎ ((from < n) × ((state s n).owner ≡ Some y))

  -- a job that was released before it is not one of the window
  early_outside : (y : ℕ) → (line_at s y).release < t → in_window s i t to y ≡ false
  early_outside y l =
      elim (cases_Bool (in_window s i t to y)) [
        | inl b ↦ elim (or_cases _ _ b) [
          | inl q ↦ let same : y ≡ i =
              eqb-true y i q in let rel : (line_at s y).release ≡ (line_at s i).release =
              ap (λ k. (line_at s k).release) same in absurd (omega (arith, last.by))
          | inr q ↦ let late : t ≤ (line_at s y).release =
              leb-true t (line_at s y).release (and_parts _ _ (and_parts _ _ q).1).0 in
              absurd (omega arith)
        ]
        | inr b ↦ b
      ]

  module _ (from : ℕ) (front : HasFront from) (no_other : NoOther) where
    -- a ready job that is i or of a higher task, at each step of the window
    some_ready : (n : ℕ) → t ≤ n → is_open (job_after s n i).standing ≡ true
        → (z : ℕ) × (is_ready (state s n).time (job_after s n z) ≡ true)
        × ((z ≡ i) × ((line_at s i).release ≤ n) ⊎ (task_at s z < task_at s i))
    some_ready n f o =
        elim (cases_lt n (line_at s i).release) [
          | inl early ↦ let z = busy_ready n f early in (z.0, z.2, inr z.1)
          | inr late ↦ (i, ready_at s n i o late, inl (refl, late))
        ]

    within_front : (n : ℕ) → from ≤ n → n < to → is_open (job_after s n i).standing ≡ true
        → (y : ℕ) × (candidate_at s n ≡ Some y) × (in_window s i t to y ≡ true)
    within_front zero g l o =
        let z = some_ready 0 (omega (arith, front.after)) o in
        inside_by 0 z.0 (candidate_at s 0) refl (omega (arith, front.after)) l z.1 z.2 no_other
        (λ y e. elim (front.takes 0 y g e) [
          | inl why ↦ inl why
          | inr own ↦ absurd (none_some own.1)
        ])
    within_front (suc n) g l o =
        let z = some_ready (suc n) (omega (arith, front.after)) o in
        inside_by (suc n) z.0 (candidate_at s (suc n)) refl (omega (arith, front.after)) l z.1
        z.2 no_other
        (λ y e. elim (front.takes (suc n) y g e) [
          | inl why ↦ inl why
          | inr own ↦
              let last_one = within_front n (let m = own.0 in omega arith) (omega arith)
              (was_open s n (suc n) i (omega arith) o) in
              let same : last_one.0 ≡ y =
              some_injective (sym (owner_after s n last_one.0 last_one.1) ∙ own.1) in
              inr (subst (λ k. in_window s i t to k ≡ true) same last_one.2)
        ])

    -- the steps of the window after the front have jobs of the window as their candidates
    pub window_covers : Covers s (in_window s i t to) i from to
    window_covers =
        record {
          none_before = λ n y l e. elim (cases_lt n t) [
            | inl early ↦ early_outside y (
                let r : (line_at s y).release ≤ n =
                rw (state_line s n y, state_time s n) at
                (ready_released (state s n).time (job_after s n y)
                (candidate_some s.system (state s n) y e).ready) in
                omega arith)
            | inr g ↦ early_outside y (was_released s t y (front.old n y g l e))
          ];
          within = within_front;
          i_inside = or_left (i == i) _ (eq-eqb i i refl);
          i_below = below;
        }
