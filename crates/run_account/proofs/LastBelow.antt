-- The largest number below another that passes a test.
use Rattle.std.proofs.Common.{◌≡◌, ◌≢◌, ℕ, zero, suc, ◌<◌, ◌≤◌, Bool, true, false, ◌||◌, sym, ◌∙◌}
use Rattle.std.proofs.Common.{subst, inl, inr, arith, if◌then◌else◌}
use Rattle.std.proofs.lemmas.Bool.{cases_Bool, cases_eq, false≢true, or_cases, or_left, or_right}

-- whether a number below n passes, and one that does
abbrev pub some_below : (ℕ → Bool) → ℕ → Bool
some_below p zero = false
some_below p (suc n) = p n || some_below p n

abbrev pub found_below : (ℕ → Bool) → ℕ → ℕ
found_below p zero = 0
found_below p (suc n) = if p n then n else found_below p n

-- the number found is below, and passes
pub found_is : (p : ℕ → Bool) (n : ℕ) → some_below p n ≡ true
    → (found_below p n < n) × (p (found_below p n) ≡ true)
found_is p zero h = absurd (false≢true h)
found_is p (suc n) h =
    elim (cases_Bool (p n)) [
      | inl b ↦ rw b (omega arith, b)
      | inr b ↦
          let rest : some_below p n ≡ true = elim (or_cases (p n) (some_below p n) h) [
            | inl q ↦ absurd (false≢true (sym b ∙ q))
            | inr q ↦ q
          ] in
          let r = found_is p n rest in
          rw b (omega (arith, r.0), r.1)
    ]

-- if a number passes, some number does
pub some_from : (p : ℕ → Bool) (n x : ℕ) → x < n → p x ≡ true → some_below p n ≡ true
some_from p zero x l h = absurd (omega arith)
some_from p (suc n) x l h =
    elim (cases_eq x n) [
      | inl e ↦ or_left (p n) (some_below p n) (subst (λ k. p k ≡ true) e h)
      | inr ne ↦ or_right (p n) (some_below p n) (some_from p n x (omega arith) h)
    ]

-- the number found is the largest that passes
pub found_last : (p : ℕ → Bool) (n x : ℕ) → x < n → p x ≡ true → x ≤ found_below p n
found_last p zero x l h = absurd (omega arith)
found_last p (suc n) x l h =
    elim (cases_Bool (p n)) [
      | inl b ↦ rw b (omega arith)
      | inr b ↦
          let ne : x ≢ n = λ e. false≢true (sym b ∙ subst (λ k. p k ≡ true) e h) in
          rw b (found_last p n x (omega arith) h)
    ]
