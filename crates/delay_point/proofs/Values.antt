-- A largest choice by other values.
use Rattle.std.proofs.Common.{◌≡◌, ℕ, zero, suc, ◌+◌, ◌-◌, ◌*◌, ◌<◌, ◌≤◌, ◌⊎◌, inl, inr, sym, ap}
use Rattle.std.proofs.Common.{arith, min}
use Rattle.delay_count.specs.Gamma.{greatest_choice}
use Rattle.delay_count.proofs.Greatest.{to_ge, to_le}

within : (value other count : ℕ → ℕ) (n budget : ℕ)
    → ((k : ℕ) → k < n → (count k ≡ 0) ⊎ (value k ≡ other k))
    → greatest_choice value count n budget ≤ greatest_choice other count n budget
within value other count zero budget h = omega arith
within value other count (suc n) budget h =
    to_le (λ x. greatest_choice value count n (budget - x) + value n * x) (min (count n) budget)
    (greatest_choice other count (suc n) budget) (λ x l.
    let rest = within value other count n (budget - x) (λ k m. h k (omega (arith, m))) in
    let at = to_ge (λ y. greatest_choice other count n (budget - y) + other n * y)
    (min (count n) budget) x l in
    let here : value n * x ≡ other n * x = elim (h n (omega arith)) [
      | inl z ↦ let none : x ≡ 0 = omega (arith, l, z) in rw none (omega arith)
      | inr e ↦ ap (λ v. v * x) e
    ] in
    omega (arith, rest, at, here))

-- values with no count do not matter
pub choice_where : (value other count : ℕ → ℕ) (n budget : ℕ)
    → ((k : ℕ) → k < n → (count k ≡ 0) ⊎ (value k ≡ other k))
    → greatest_choice value count n budget ≡ greatest_choice other count n budget
choice_where value other count n budget h =
    let le = within value other count n budget h in
    let ge = within other value count n budget
    (λ k l. elim (h k l) [ inl z ↦ inl z | inr e ↦ inr (sym e) ]) in
    omega (arith, le, ge)
