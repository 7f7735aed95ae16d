-- For step 7: a job whose window has room for its account has ended at the window's end.
use Rattle.std.proofs.Common.{◌≡◌, ℕ, zero, suc, ◌+◌, ◌<◌, ◌≤◌, Bool, true, false, ◌||◌, length}
use Rattle.std.proofs.Common.{Option, Some, None, refl, sym, ◌∙◌, subst, inl, inr, arith}
use Rattle.std.specs.Prelude.{◌==◌, if◌then◌else◌}
use Rattle.std.proofs.lemmas.Bool.{cases_Bool, cases_lt, false≢true, or_cases}
use Rattle.crpd_base.proofs.Sums.{sum_le, sum_ge}
use Rattle.crpd_base.proofs.Options.{some_injective}
use Rattle.preempt_machine.specs.Step.{is_open, is_owner, Start, state}
use Rattle.run_account.specs.Fetches.{job_after}
use Rattle.crpd_base.specs.Sum.{sum_below}
use Rattle.run_account.proofs.Owners.{candidate_at, was_owner, owns_true, owner_after, owner_was}
use Rattle.run_account.proofs.Owners.{was_open}
use Rattle.sound_laws.proofs.Windows.Accounts.{Spends, first_switch, weight, pending_of, pending}
use Rattle.sound_laws.proofs.Windows.Accounts.{account, account_step}

-- the candidates of the steps from one time to another: jobs inside, of which none was one before
pub record Covers (s : Start) (inside : ℕ → Bool) (i from to : ℕ) : Type 0 where
  pub none_before : (n y : ℕ) → n < from → candidate_at s n ≡ Some y → inside y ≡ false
  pub within : (n : ℕ) → from ≤ n → n < to → is_open (job_after s n i).standing ≡ true
      → (y : ℕ) × (candidate_at s n ≡ Some y) × (inside y ≡ true)
  pub i_inside : inside i ≡ true
  pub i_below : i < length s.lines

-- what a job inside has to spend, including its switches
abbrev pub allowance : Start → (ℕ → Bool) → ℕ → (ℕ → ℕ) → ℕ → ℕ
allowance s inside i cost x =
    if inside x
    then cost x + (if x == i then s.system.platform.switch
    else s.system.platform.switch + s.system.platform.switch) else 0

module _ (s : Start) (inside : ℕ → Bool) (i from to : ℕ) (covers : Covers s inside i from to) where
  pub none_was : (n y : ℕ) → n ≤ from → was_owner s n y ≡ true → inside y ≡ false
  none_was zero y h w = absurd (false≢true w)
  none_was (suc n) y h w =
      elim (or_cases _ _ w) [
        | inl c ↦ covers.none_before n y h (owns_true _ y c)
        | inr b ↦ none_was n y (omega arith) b
      ]

  -- the owner is inside once a job inside was a candidate
  pub owner_inside : (n y o : ℕ) → from ≤ n → n ≤ to → is_open (job_after s n i).standing ≡ true
      → inside y ≡ true → was_owner s n y ≡ true → (state s n).owner ≡ Some o → inside o ≡ true
  owner_inside zero y o f t oi h w own = absurd (false≢true w)
  owner_inside (suc n) y o f t oi h w own =
      elim (cases_lt n from) [
        | inl l ↦ absurd (false≢true (sym (none_was (suc n) y (omega arith) w) ∙ h))
        | inr g ↦
            let c = covers.within n g (omega arith) (was_open s n (suc n) i (omega arith) oi) in
            let same : c.0 ≡ o = some_injective (sym (owner_after s n c.0 c.1) ∙ own) in
            subst (λ k. inside k ≡ true) same c.2
      ]

module _ (s : Start) (rest : ℕ → ℕ → ℕ) (extra : ℕ → ℕ) (horizon : ℕ)
    (spends : Spends s rest extra horizon) (inside : ℕ → Bool) (i from to : ℕ)
    (in_horizon : to ≤ horizon) (covers : Covers s inside i from to) where
  -- each step so far has spent a cycle
  spent : (n : ℕ) → from ≤ n → n ≤ to → is_open (job_after s n i).standing ≡ true →
      n + account s rest inside i n + sum_below extra from
      ≤ from + account s rest inside i from + sum_below extra n
  spent zero f t oi = let e : from ≡ 0 = omega arith in rw e (omega arith)
  spent (suc n) f t oi =
      elim (cases_lt n from) [
        | inl l ↦ let e : from ≡ suc n = omega arith in rw e (omega arith)
        | inr g ↦
            let oi_before = was_open s n (suc n) i (omega arith) oi in
            let c = covers.within n g (omega arith) oi_before in
            let one = account_step s rest extra horizon spends inside i n c.0 (omega arith) c.1 c.2
            oi_before (λ w o own.
            owner_inside s inside i from to covers n c.0 o g (omega arith) oi_before c.2 w own) in
            omega (arith, one, spent n g (omega arith) oi_before)
      ]

  pending_none_by : (o : Option ℕ) → (state s from).owner ≡ o
      → pending_of s rest inside i o (state s from).switch_left ≡ 0
  pending_none_by None e = refl
  pending_none_by (Some o) e =
      rw (none_was s inside i from to covers from o (omega arith) (owner_was s from o e))

  weight_le : (cost : ℕ → ℕ) (x : ℕ) → (inside x ≡ true → rest from x ≤ cost x)
      → weight s rest inside i from x ≤ allowance s inside i cost x
  weight_le cost x h =
      elim (cases_Bool (inside x)) [
        | inl b ↦
            let r = h b in
            let first : first_switch s rest inside i from x ≤ s.system.platform.switch =
            elim (cases_Bool (was_owner s from x)) [
              | inl w ↦ rw w (omega arith)
              | inr w ↦ rw w (omega arith)
            ] in
            elim (cases_Bool (x == i)) [
              | inl q ↦ rw (b, q) (omega (arith, r, first))
              | inr q ↦
                  elim (cases_Bool
                  (is_open (job_after s from x).standing || is_owner (state s from).owner x)) [
                    | inl k ↦ rw (b, q, k) (omega (arith, r, first))
                    | inr k ↦ rw (b, q, k) (omega (arith, r, first))
                  ]
            ]
        | inr b ↦ rw b (omega arith)
      ]

  -- with room for all that may be spent, the job has ended at the end
  pub over_at_end : (cost : ℕ → ℕ) → from ≤ to → ((x : ℕ) → inside x ≡ true → rest from x ≤ cost x)
      →
      (is_open (job_after s to i).standing ≡ true
      → from + sum_below (allowance s inside i cost) (length s.lines) + sum_below extra to
      ≤ to + sum_below extra from) →
      is_open (job_after s to i).standing ≡ false
  over_at_end cost l c has_room =
      elim (cases_Bool (is_open (job_after s to i).standing)) [
        | inl o ↦
            let room = has_room o in
            let all = spent to l (omega arith) o in
            let none : pending s rest inside i from ≡ 0 =
            pending_none_by (state s from).owner refl in
            let begin = sum_le (weight s rest inside i from) (allowance s inside i cost)
            (length s.lines) (λ x h. weight_le cost x (c x)) in
            let mine = sum_ge (weight s rest inside i to) (length s.lines) i covers.i_below in
            let some = spends.some to i in_horizon o in
            let weighs : rest to i ≤ weight s rest inside i to i =
            rw covers.i_inside (omega arith) in
            absurd (omega (arith, all, none, begin, mine, some, weighs, room))
        | inr o ↦ o
      ]
