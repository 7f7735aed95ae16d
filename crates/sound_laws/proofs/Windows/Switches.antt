-- For step 7: the core goes to another job at most once for the job of a window, and twice for each
-- job of a higher task that is released in it.
use Rattle.std.proofs.Common.{◌≡◌, ◌≢◌, ℕ, zero, suc, ◌+◌, ◌*◌, ◌<◌, ◌≤◌, Bool, true, false, ◌||◌}
use Rattle.std.proofs.Common.{◌&&◌, length, Option, Some, None, refl, sym, ◌∙◌, ap, inl, inr, arith}
use Rattle.std.proofs.Common.{◌==◌, nat_lt, nat_le, if◌then◌else◌}
use Rattle.std.proofs.lemmas.Bool.{cases_Bool, cases_eq, cases_lt, false≢true, ne_eqb, eq-eqb}
use Rattle.std.proofs.lemmas.Bool.{or_cases, or_left, le-leb, lt-leb}
use Rattle.std.proofs.lemmas.Bool.{eqb-true}
use Rattle.crpd_base.specs.Sum.{sum_below, one_if}
use Rattle.crpd_base.proofs.Options.{some_injective, same_or_not}
use Rattle.crpd_base.proofs.Sums.{sum_le, sum_add, sum_times, sum_change, sum_change_two, sum_only}
use Rattle.crpd_base.proofs.Sums.{only}
use Rattle.preempt_machine.specs.Step.{is_open, is_owner, Start, state}
use Rattle.preempt_machine.proofs.Steps.{candidate_some, ready_open, step_other}
use Rattle.run_account.specs.Fetches.{job_after}
use Rattle.run_account.proofs.Jobs.{jobs_length}
use Rattle.run_account.proofs.Owners.{candidate_at, was_owner, owns_same, owner_after}
use Rattle.run_account.proofs.Owners.{owner_was}
use Rattle.sound_laws.specs.BusyWindows.{is_switch, is_released_in}
use Rattle.sound_laws.proofs.Windows.Accounts.{owner_over, was_below, was_some}
use Rattle.sound_laws.proofs.Windows.Busy.{task_at, in_window}
use Rattle.sound_laws.proofs.Windows.Releases.{count, count_none}
use Rattle.sound_laws.proofs.Windows.Rooms.{Covers, owner_inside}

one_at_most : (b : Bool) → one_if b ≤ 1
one_at_most true = omega arith
one_at_most false = omega arith

-- no switch is made by the owner
pub no_switch : (s : Start) (n y : ℕ) → candidate_at s n ≡ Some y → (state s n).owner ≡ Some y
    → is_switch s n ≡ false
no_switch s n y e own = rw (e, own, owns_same y) refl

module _ (s : Start) (inside : ℕ → Bool) (i : ℕ) where
  -- whether a job has yet to take the core for the first time, and to give it back
  abbrev first : ℕ → ℕ → ℕ
  first n x = if was_owner s n x then 0 else 1

  abbrev back : ℕ → ℕ → ℕ
  back n x =
      if x == i then 0
      else one_if (is_open (job_after s n x).standing || is_owner (state s n).owner x)

  abbrev weight : ℕ → ℕ → ℕ
  weight n x = if inside x then first n x + back n x else 0

  -- the switches that the jobs inside may still make
  abbrev total : ℕ → ℕ
  total n = sum_below (weight n) (length s.lines)

  others_le : (n y x : ℕ) → candidate_at s n ≡ Some y → x ≢ y → weight (suc n) x ≤ weight n x
  others_le n y x e ne =
      let same : job_after s (suc n) x ≡ job_after s n x =
      step_other s.system (state s n) x (λ q. ne (some_injective (sym q ∙ e))) in
      let away : is_owner (state s (suc n)).owner x ≡ false =
      rw (owner_after s n y e) (ne_eqb y x (λ q. ne (sym q))) in
      let was : was_owner s (suc n) x ≡ was_owner s n x = rw (e, ne_eqb y x (λ q. ne (sym q))) in
      let less : back (suc n) x ≤ back n x =
      elim (cases_Bool (x == i)) [
        | inl b ↦ rw b (omega arith)
        | inr b ↦ elim (cases_Bool (is_open (job_after s n x).standing)) [
          | inl o ↦ rw (b, same, o) (omega arith)
          | inr o ↦ rw (b, same, o, away) (omega arith)
        ]
      ] in
      elim (cases_Bool (inside x)) [
        | inl h ↦ rw (h, was) (omega (arith, less))
        | inr h ↦ rw h (omega arith)
      ]

  -- the candidate has taken the core
  own_le : (n y : ℕ) → candidate_at s n ≡ Some y → inside y ≡ true
      → weight (suc n) y + first n y ≤ weight n y
  own_le n y e h =
      let opened = ready_open (state s n).time (job_after s n y)
      (candidate_some s.system (state s n) y e).ready in
      let was : was_owner s (suc n) y ≡ true =
      or_left (is_owner (candidate_at s n) y) (was_owner s n y) (rw e (owns_same y)) in
      let less : back (suc n) y ≤ back n y =
      elim (cases_Bool (y == i)) [
        | inl b ↦ rw b (omega arith)
        | inr b ↦
            elim (cases_Bool (is_open (job_after s (suc n) y).standing
            || is_owner (state s (suc n)).owner y)) [
              | inl k ↦ rw (b, opened, k) (omega arith)
              | inr k ↦ rw (b, opened, k) (omega arith)
            ]
      ] in
      rw (h, was) (omega (arith, less))

  -- the owner before it, which has ended, has given the core back
  gives_back : (n y o : ℕ) → candidate_at s n ≡ Some y → (state s n).owner ≡ Some o → o ≢ y
      → inside o ≡ true → is_open (job_after s n o).standing ≡ false → o ≢ i
      → weight (suc n) o + 1 ≤ weight n o
  gives_back n y o e own ne io over not_i =
      let same : job_after s (suc n) o ≡ job_after s n o =
      step_other s.system (state s n) o (λ q. ne (some_injective (sym q ∙ e))) in
      let away : is_owner (state s (suc n)).owner o ≡ false =
      rw (owner_after s n y e) (ne_eqb y o (λ q. ne (sym q))) in
      let was : was_owner s (suc n) o ≡ was_owner s n o = rw (e, ne_eqb y o (λ q. ne (sym q))) in
      let held : back n o ≡ 1 = rw (ne_eqb o i not_i, over, own, owns_same o) refl in
      let given : back (suc n) o ≡ 0 = rw (ne_eqb o i not_i, same, over, away) refl in
      rw (io, was) (omega (arith, held, given))

module _ (s : Start) (inside : ℕ → Bool) (i from to : ℕ) (covers : Covers s inside i from to)
    (open_before : (n : ℕ) → n < to → is_open (job_after s n i).standing ≡ true) where
  abbrev left : ℕ → ℕ
  left = total s inside i

  -- a step of a job inside: a switch is one less that may still be made
  module _ (n y : ℕ) (late : from ≤ n) (early : n < to) (e : candidate_at s n ≡ Some y)
      (h : inside y ≡ true) where
    below : y < length s.lines
    below =
        let is = (candidate_some s.system (state s n) y e).below in
        omega (arith, is, jobs_length s n)

    step_first : was_owner s n y ≡ false → one_if (is_switch s n) + left (suc n) ≤ left n
    step_first w =
        let one = one_at_most (is_switch s n) in
        let is : first s inside i n y ≡ 1 = rw w refl in
        let mine = own_le s inside i n y e h in
        let all = sum_change (weight s inside i n) (weight s inside i (suc n)) (length s.lines) y 1
        0 below (omega (arith, mine, is)) (λ x l ne. others_le s inside i n y x e ne) in
        omega (arith, all, one)

    step_same : (state s n).owner ≡ Some y → one_if (is_switch s n) + left (suc n) ≤ left n
    step_same own =
        let none : one_if (is_switch s n) ≡ 0 = rw (no_switch s n y e own) refl in
        let mine = own_le s inside i n y e h in
        let all = sum_change (weight s inside i n) (weight s inside i (suc n)) (length s.lines) y 0
        0 below (omega (arith, mine)) (λ x l ne. others_le s inside i n y x e ne) in
        omega (arith, all, none)

    step_again : (o : ℕ) → (state s n).owner ≡ Some o → o ≢ y → was_owner s n y ≡ true
        → one_if (is_switch s n) + left (suc n) ≤ left n
    step_again o own ne w =
        let one = one_at_most (is_switch s n) in
        let over = owner_over s n y o e own ne w in
        let not_i : o ≢ i = λ q.
        false≢true
        (sym over ∙ ap (λ z. is_open (job_after s n z).standing) q ∙ open_before n early) in
        let io = owner_inside s inside i from to covers n y o late (omega arith)
        (open_before n early) h w own in
        let mine = own_le s inside i n y e h in
        let all = sum_change_two (weight s inside i n) (weight s inside i (suc n))
        (length s.lines) y 0 0 o 1 below (was_below s n o (owner_was s n o own)) (λ q. ne (sym q))
        (omega (arith, mine)) (gives_back s inside i n y o e own ne io over not_i)
        (λ x away more. others_le s inside i n y x e away) in
        omega (arith, all, one)

    step_by_owner : (c : Option ℕ) → (state s n).owner ≡ c → (state s n).owner ≢ Some y
        → was_owner s n y ≡ true → one_if (is_switch s n) + left (suc n) ≤ left n
    step_by_owner None own ne w = absurd (was_some s n y w own)
    step_by_owner (Some o) own ne w = step_again o own (λ q. ne (own ∙ ap Some q)) w

    step_le : one_if (is_switch s n) + left (suc n) ≤ left n
    step_le =
        elim (same_or_not (state s n).owner (Some y)) [
          | inl own ↦ step_same own
          | inr ne ↦ elim (cases_Bool (was_owner s n y)) [
            | inl w ↦ step_by_owner (state s n).owner refl ne w
            | inr w ↦ step_first w
          ]
        ]

  early_none : (n : ℕ) → n ≤ from → count (λ m. nat_le from m && is_switch s m) n ≡ 0
  early_none n l =
      count_none (λ m. nat_le from m && is_switch s m) n
      (λ m k. rw (lt-leb from m (omega arith)) refl)

  -- the switches of the steps so far, and those that may still be made
  switches_left : (n : ℕ) → from ≤ n → n ≤ to
      → count (λ m. nat_le from m && is_switch s m) n + left n ≤ left from
  switches_left zero f t =
      let e : from ≡ 0 = omega arith in let same : left from ≡ left 0 = ap left e in
      omega (arith, same)
  switches_left (suc n) f t =
      elim (cases_lt n from) [
        | inl l ↦
            let e : from ≡ suc n = omega arith in
            let same : left from ≡ left (suc n) = ap left e in
            let none = early_none (suc n) (omega arith) in
            omega (arith, none, same)
        | inr g ↦
            let c = covers.within n g (omega arith) (open_before n (omega arith)) in
            let one = step_le n c.0 g (omega arith) c.1 c.2 in
            let is : one_if (nat_le from n && is_switch s n) ≡ one_if (is_switch s n) =
            rw (le-leb from n g) refl in
            omega (arith, one, is, switches_left n g (omega arith))
      ]

-- the switches that the jobs of a window may make
module _ (s : Start) (i t to n : ℕ) where
  abbrev is_higher : ℕ → Bool
  is_higher y = nat_lt (task_at s y) (task_at s i) && is_released_in s t to y

  first_le : (x : ℕ) → first s (in_window s i t to) i n x ≤ 1
  first_le x = elim (cases_Bool (was_owner s n x)) [
    | inl b ↦ rw b (omega arith)
    | inr b ↦ rw b (omega arith)
  ]

  back_le : (x : ℕ) → back s (in_window s i t to) i n x ≤ 1
  back_le x =
      elim (cases_Bool (x == i)) [
        | inl b ↦ rw b (omega arith)
        | inr b ↦
            elim (cases_Bool (is_open (job_after s n x).standing
            || is_owner (state s n).owner x)) [
              | inl k ↦ rw (b, k) (omega arith)
              | inr k ↦ rw (b, k) (omega arith)
            ]
      ]

  weight_le : (x : ℕ) → weight s (in_window s i t to) i n x ≤ only i 1 x + 2 * one_if (is_higher x)
  weight_le x =
      let f = first_le x in
      let k = back_le x in
      elim (cases_eq x i) [
        | inl e ↦ let b : (x == i) ≡ true = eq-eqb x i e in rw b (omega (arith, f))
        | inr ne ↦ elim (cases_Bool (in_window s i t to x)) [
          | inl b ↦ elim (or_cases _ _ b) [
            | inl q ↦ absurd (ne (eqb-true x i q))
            | inr q ↦
                let two : one_if (is_higher x) ≡ 1 = rw q refl in
                rw b (omega (arith, f, k, two))
          ]
          | inr b ↦ rw b (omega arith)
        ]
      ]

  total_le : i < length s.lines → total s (in_window s i t to) i n
      ≤ 1 + 2 * count is_higher (length s.lines)
  total_le h =
      let le = sum_le (weight s (in_window s i t to) i n)
      (λ x. only i 1 x + 2 * one_if (is_higher x)) (length s.lines) (λ x l. weight_le x) in
      let two = sum_add (only i 1) (λ x. 2 * one_if (is_higher x)) (length s.lines) in
      let mine = sum_only i 1 (length s.lines) h in
      let times = sum_times 2 (λ x. one_if (is_higher x)) (length s.lines) in
      omega (arith, le, two, mine, times)

-- so they make no more
pub few_switches : (s : Start) (i t from to : ℕ) → Covers s (in_window s i t to) i from to
    → ((n : ℕ) → n < to → is_open (job_after s n i).standing ≡ true)
    → count (λ n. nat_le from n && is_switch s n) to
    ≤ 1 + 2 * count (λ y. nat_lt (task_at s y) (task_at s i) && is_released_in s t to y)
    (length s.lines)
few_switches s i t from to covers open_before =
    elim (cases_lt to from) [
      | inl l ↦
          let none = early_none s (in_window s i t to) i from to covers open_before to
          (omega arith) in
          omega (arith, none)
      | inr g ↦
          let all = switches_left s (in_window s i t to) i from to covers open_before to g
          (omega arith) in
          let most = total_le s i t to from covers.i_below in
          omega (arith, all, most)
    ]
