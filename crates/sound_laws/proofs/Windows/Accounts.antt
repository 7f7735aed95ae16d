-- For step 7: the account of a window is what the jobs in it may still spend. Each step of one of
-- them spends a cycle.
use Rattle.std.proofs.Common.{◌≡◌, ℕ, zero, suc, ◌+◌, ◌<◌, ◌≤◌, ◌≢◌, Bool, true, false, ◌||◌}
use Rattle.std.proofs.Common.{length, Option, Some, None, refl, sym, ◌∙◌, ap, subst, inl, inr}
use Rattle.std.proofs.Common.{arith, ◌==◌, if◌then◌else◌}
use Rattle.std.proofs.lemmas.Bool.{cases_Bool, false≢true, ne_eqb, or_cases, or_left}
use Rattle.crpd_base.proofs.Sums.{sum_change, sum_change_two}
use Rattle.crpd_base.proofs.Options.{some_injective, none_some, same_or_not}
use Rattle.preempt_machine.specs.Step.{is_open, is_ready, is_owner, turn_of, Start, state}
use Rattle.preempt_machine.proofs.Order.{comes_before_asym}
use Rattle.preempt_machine.proofs.Steps.{new_owner, candidate_some, ready_open, step_other}
use Rattle.run_account.specs.Fetches.{job_after}
use Rattle.crpd_base.specs.Sum.{sum_below}
use Rattle.run_account.proofs.Jobs.{jobs_length, owns_none}
use Rattle.run_account.proofs.Owners.{candidate_at, was_owner, owns_true, owns_same, owner_after}
use Rattle.run_account.proofs.Owners.{owner_stays, owner_was, was_released, ready_at}
use Rattle.run_account.proofs.Owners.{owner_is_first, first_at}

-- the cycles that remain for a job, by a measure: up to a horizon a step of the job spends one, and
-- adds at most `extra`
pub record Spends (s : Start) (rest : ℕ → ℕ → ℕ) (extra : ℕ → ℕ) (horizon : ℕ) : Type 0 where
  pub spends : (n y : ℕ) → n < horizon → candidate_at s n ≡ Some y
      → rest (suc n) y + (state s (suc n)).switch_left + 1
      ≤ rest n y + (turn_of s.system (state s n) y).switch_left + extra n
  pub keeps : (n x : ℕ) → n < horizon → candidate_at s n ≢ Some x → rest (suc n) x ≤ rest n x
  pub some : (n x : ℕ) → n ≤ horizon → is_open (job_after s n x).standing ≡ true → 1 ≤ rest n x

module _ (s : Start) (rest : ℕ → ℕ → ℕ) (inside : ℕ → Bool) (i : ℕ) where
  -- a job's first switch, until it has been a candidate
  abbrev pub first_switch : ℕ → ℕ → ℕ
  first_switch n x = if was_owner s n x then 0 else s.system.platform.switch

  -- the switch back from a job other than i, until it has ended and another is the owner
  abbrev pub switch_back : ℕ → ℕ → ℕ
  switch_back n x =
      if x == i then 0
      else (if is_open (job_after s n x).standing || is_owner (state s n).owner x
      then s.system.platform.switch else 0)

  abbrev pub weight : ℕ → ℕ → ℕ
  weight n x = if inside x then rest n x + first_switch n x + switch_back n x else 0

  -- the switch cycles left to a job inside
  abbrev pub pending_of : Option ℕ → ℕ → ℕ
  pending_of None left = 0
  pending_of (Some o) left = if inside o then left else 0

  abbrev pub pending : ℕ → ℕ
  pending n = pending_of (state s n).owner (state s n).switch_left

  abbrev pub account : ℕ → ℕ
  account n = sum_below (weight n) (length s.lines) + pending n

-- a job that was a candidate has a place in the script
pub was_below : (s : Start) (n x : ℕ) → was_owner s n x ≡ true → x < length s.lines
was_below s zero x h = absurd (false≢true h)
was_below s (suc n) x h =
    elim (or_cases _ _ h) [
      | inl c ↦ let below =
          (candidate_some s.system (state s n) x (owns_true _ x c)).below in
          omega (arith, below, jobs_length s n)
      | inr w ↦ was_below s n x w
    ]

-- with no owner yet nothing was a candidate
was_some_by : (s : Start) (n x : ℕ) (c : Option ℕ) → candidate_at s n ≡ c
    → (was_owner s n x ≡ true → (state s n).owner ≢ None) → was_owner s (suc n) x ≡ true
    → (state s (suc n)).owner ≢ None
was_some_by s n x None e h w = λ q.
    h (elim (or_cases _ _ w) [ inl p ↦ absurd (none_some (sym e ∙ owns_true _ x p)) | inr p ↦ p ])
    (sym (owner_stays s n e) ∙ q)
was_some_by s n x (Some y) e h w = λ q. none_some (sym q ∙ owner_after s n y e)

pub was_some : (s : Start) (n x : ℕ) → was_owner s n x ≡ true → (state s n).owner ≢ None
was_some s zero x h = absurd (false≢true h)
was_some s (suc n) x h = was_some_by s n x (candidate_at s n) refl (was_some s n x) h

-- if a job becomes the owner again, the owner before it has ended
pub owner_over : (s : Start) (n y o : ℕ) → candidate_at s n ≡ Some y → (state s n).owner ≡ Some o
    → o ≢ y → was_owner s n y ≡ true → is_open (job_after s n o).standing ≡ false
owner_over s n y o e own ne w =
    elim (cases_Bool (is_open (job_after s n o).standing)) [
      | inl oo ↦
          let y_open = ready_open (state s n).time (job_after s n y)
          (candidate_some s.system (state s n) y e).ready in
          let r : (job_after s 0 o).line.release ≤ n =
          omega (arith, was_released s n o (owner_was s n o own)) in
          let y_first = first_at s n y o e (new_owner (λ q. ne (some_injective (sym own ∙ q))))
          (ready_at s n o oo r) in
          let o_first = owner_is_first s n y o w y_open own oo in
          elim y_first [
            | inl q ↦ absurd (ne q)
            | inr b ↦ elim o_first [
              | inl q ↦ absurd (ne (sym q))
              | inr c ↦ absurd (false≢true (sym (comes_before_asym _ _ _ _ b) ∙ c))
            ]
          ]
      | inr oo ↦ oo
    ]

module _ (s : Start) (rest : ℕ → ℕ → ℕ) (extra : ℕ → ℕ) (horizon : ℕ)
    (spends : Spends s rest extra horizon) (inside : ℕ → Bool) (i : ℕ) where
  was_same : (n y x : ℕ) → candidate_at s n ≡ Some y → x ≢ y
      → was_owner s (suc n) x ≡ was_owner s n x
  was_same n y x e ne = rw (e, ne_eqb y x (λ q. ne (sym q)))

  back_le : (n y x : ℕ) → candidate_at s n ≡ Some y → x ≢ y
      → switch_back s rest inside i (suc n) x ≤ switch_back s rest inside i n x
  back_le n y x e ne =
      let same : job_after s (suc n) x ≡ job_after s n x =
      step_other s.system (state s n) x (λ q. ne (some_injective (sym q ∙ e))) in
      let away : is_owner (state s (suc n)).owner x ≡ false =
      rw (owner_after s n y e) (ne_eqb y x (λ q. ne (sym q))) in
      elim (cases_Bool (x == i)) [
        | inl b ↦ rw b (omega arith)
        | inr b ↦ elim (cases_Bool (is_open (job_after s n x).standing)) [
          | inl o ↦ rw (b, same, o) (omega arith)
          | inr o ↦ rw (b, same, o, away) (omega arith)
        ]
      ]

  others_le : (n y x : ℕ) → n < horizon → candidate_at s n ≡ Some y → x ≢ y
      → weight s rest inside i (suc n) x ≤ weight s rest inside i n x
  others_le n y x early e ne =
      let k = spends.keeps n x early (λ q. ne (some_injective (sym q ∙ e))) in
      let b = back_le n y x e ne in
      elim (cases_Bool (inside x)) [
        | inl h ↦ rw (h, was_same n y x e ne) (omega (arith, k, b))
        | inr h ↦ rw h (omega arith)
      ]

  -- a job's switch back while it is open
  abbrev back : ℕ → ℕ
  back y = if y == i then 0 else s.system.platform.switch

  back_at_most : (n y : ℕ) → switch_back s rest inside i n y ≤ back y
  back_at_most n y =
      elim (cases_Bool (y == i)) [
        | inl b ↦ rw b (omega arith)
        | inr b ↦
            elim (cases_Bool (is_open (job_after s n y).standing || is_owner (state s n).owner y)) [
              | inl o ↦ rw (b, o) (omega arith)
              | inr o ↦ rw (b, o) (omega arith)
            ]
      ]

  back_open : (n y : ℕ) → is_open (job_after s n y).standing ≡ true
      → switch_back s rest inside i n y ≡ back y
  back_open n y o = rw o

  own_after : (n y : ℕ) → candidate_at s n ≡ Some y → inside y ≡ true
      → weight s rest inside i (suc n) y ≤ rest (suc n) y + back y
  own_after n y e h =
      let b = back_at_most (suc n) y in
      let w : was_owner s (suc n) y ≡ true =
      or_left (is_owner (candidate_at s n) y) (was_owner s n y) (rw e (owns_same y)) in
      rw (h, w) (omega (arith, b))

  own_before : (n y : ℕ) → is_open (job_after s n y).standing ≡ true → inside y ≡ true
      → weight s rest inside i n y ≡ rest n y + first_switch s rest inside i n y + back y
  own_before n y o h = rw (h, back_open n y o)

  pending_after : (n y : ℕ) → candidate_at s n ≡ Some y → inside y ≡ true
      → pending s rest inside i (suc n) ≡ (state s (suc n)).switch_left
  pending_after n y e h = rw (owner_after s n y e, h)

  -- a step of a job inside spends a cycle of the account, while i is open
  module _ (n y : ℕ) (early : n < horizon) (e : candidate_at s n ≡ Some y) (h : inside y ≡ true)
      (opened : is_open (job_after s n i).standing ≡ true) where
    y_ready : is_ready (state s n).time (job_after s n y) ≡ true
    y_ready = (candidate_some s.system (state s n) y e).ready

    y_open : is_open (job_after s n y).standing ≡ true
    y_open = ready_open (state s n).time (job_after s n y) y_ready

    y_below : y < length s.lines
    y_below =
        let below = (candidate_some s.system (state s n) y e).below in
        omega (arith, below, jobs_length s n)

    -- the owner continues
    step_same : (state s n).owner ≡ Some y
        → account s rest inside i (suc n) + 1 ≤ account s rest inside i n + extra n
    step_same o =
        let sp = spends.spends n y early e in
        let kept : (turn_of s.system (state s n) y).switch_left ≡ (state s n).switch_left =
        rw (o, owns_same y) in
        let p : pending s rest inside i n ≡ (state s n).switch_left = rw (o, h) in
        let q = pending_after n y e h in
        let here : weight s rest inside i (suc n) y + (pending s rest inside i (suc n) + 1)
        ≤ weight s rest inside i n y + (pending s rest inside i n + extra n) =
        omega (arith, own_after n y e h, own_before n y y_open h, sp, kept, p, q) in
        let all = sum_change (weight s rest inside i n) (weight s rest inside i (suc n))
        (length s.lines) y (pending s rest inside i (suc n) + 1)
        (pending s rest inside i n + extra n) y_below here
        (λ x below ne. others_le n y x early e ne) in
        omega (arith, all)

    switch_full : (state s n).owner ≢ Some y
        → (turn_of s.system (state s n) y).switch_left ≡ s.system.platform.switch
    switch_full ne = rw (owns_none (state s n).owner y ne)

    -- a job becomes the owner for the first time
    step_new : (state s n).owner ≢ Some y → was_owner s n y ≡ false
        → account s rest inside i (suc n) + 1 ≤ account s rest inside i n + extra n
    step_new ne w =
        let sp = rw (switch_full ne) at (spends.spends n y early e) in
        let q = pending_after n y e h in
        let f : first_switch s rest inside i n y ≡ s.system.platform.switch = rw w in
        let here : weight s rest inside i (suc n) y + (pending s rest inside i (suc n) + 1)
        ≤ weight s rest inside i n y + extra n =
        omega (arith, own_after n y e h, own_before n y y_open h, sp, f, q) in
        let all = sum_change (weight s rest inside i n) (weight s rest inside i (suc n))
        (length s.lines) y (pending s rest inside i (suc n) + 1) (extra n) y_below here
        (λ x below away. others_le n y x early e away) in
        omega (arith, all)

    -- a job becomes the owner again: the owner before it has ended and spent its switch back
    gives_back : (o : ℕ) → (state s n).owner ≡ Some o → o ≢ y → inside o ≡ true
        → is_open (job_after s n o).standing ≡ false
        → weight s rest inside i (suc n) o + s.system.platform.switch ≤ weight s rest inside i n o
    gives_back o own ne io over =
        let same : job_after s (suc n) o ≡ job_after s n o =
        step_other s.system (state s n) o (λ q. ne (some_injective (sym q ∙ e))) in
        let k = spends.keeps n o early (λ q. ne (some_injective (sym q ∙ e))) in
        let not_i : (o == i) ≡ false = ne_eqb o i
        (λ q. false≢true (sym over
        ∙ subst (λ z. is_open (job_after s n z).standing ≡ true) (sym q) opened)) in
        let away : is_owner (state s (suc n)).owner o ≡ false =
        rw (owner_after s n y e) (ne_eqb y o (λ q. ne (sym q))) in
        let back_now : switch_back s rest inside i n o ≡ s.system.platform.switch =
        rw (not_i, over, own, owns_same o) in
        let back_then : switch_back s rest inside i (suc n) o ≡ 0 = rw (not_i, same, over, away) in
        rw (io, was_same n y o e ne) (omega (arith, k, back_now, back_then))

    step_again : (o : ℕ) → (state s n).owner ≡ Some o → o ≢ y → was_owner s n y ≡ true
        → inside o ≡ true → account s rest inside i (suc n) + 1
        ≤ account s rest inside i n + extra n
    step_again o own ne w io =
        let sp = rw (switch_full (λ q. ne (some_injective (sym own ∙ q)))) at
        (spends.spends n y early e) in
        let q = pending_after n y e h in
        let here : weight s rest inside i (suc n) y + (pending s rest inside i (suc n) + 1)
        ≤ weight s rest inside i n y + (s.system.platform.switch + extra n) =
        omega (arith, own_after n y e h, own_before n y y_open h, sp, q) in
        let all = sum_change_two (weight s rest inside i n) (weight s rest inside i (suc n))
        (length s.lines) y (pending s rest inside i (suc n) + 1)
        (s.system.platform.switch + extra n) o s.system.platform.switch
        y_below (was_below s n o (owner_was s n o own)) (λ q. ne (sym q)) here
        (gives_back o own ne io (owner_over s n y o e own ne w))
        (λ x away more. others_le n y x early e away) in
        omega (arith, all)

    step_by_owner : (c : Option ℕ) → (state s n).owner ≡ c → (state s n).owner ≢ Some y
        → was_owner s n y ≡ true → ((o : ℕ) → (state s n).owner ≡ Some o → inside o ≡ true)
        → account s rest inside i (suc n) + 1 ≤ account s rest inside i n + extra n
    step_by_owner None own ne w io = absurd (was_some s n y w own)
    step_by_owner (Some o) own ne w io = step_again o own (λ q. ne (own ∙ ap Some q)) w (io o own)

    pub account_step : (was_owner s n y ≡ true → (o : ℕ) → (state s n).owner ≡ Some o
        → inside o ≡ true) → account s rest inside i (suc n) + 1
        ≤ account s rest inside i n + extra n
    account_step io =
        elim (same_or_not (state s n).owner (Some y)) [
          | inl o ↦ step_same o
          | inr ne ↦ elim (cases_Bool (was_owner s n y)) [
            | inl w ↦ step_by_owner (state s n).owner refl ne w (io w)
            | inr w ↦ step_new ne w
          ]
        ]
