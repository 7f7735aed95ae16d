-- The members of the empty set, and of the set of cache set 0 alone.
use Rattle.std.proofs.Common.{◌≡◌, ◌∙◌, ℕ, suc, ◌-◌, ◌/◌, ◌%◌, IsTrue, ap, inl, inr, arith, get_or}
use Rattle.std.proofs.Common.{replicate, length}
use Rattle.std.specs.Int.{bit_at}
use Rattle.std.proofs.lemmas.Bool.{cases_eq, cases_lt, eqb-true}
use Rattle.std.proofs.lemmas.List.{get_or_past, get_or-replicate, length-replicate}
use Rattle.std.proofs.lemmas.Nat.Bits.{bit_at-zero, bit_at-pow_other}
use Rattle.crpd_base.specs.Sets.{member, has}
use Rattle.worked_examples.specs.TwoWords.{zero_alone}

zeros_only : (n k : ℕ) → ◌≡◌ {A = ℕ} (get_or (replicate n 0) k 0) 0
zeros_only n k =
    elim (cases_lt k n) [
      | inl l ↦ get_or-replicate n k 0 0 l
      | inr g ↦
          get_or_past (replicate n 0) k 0
          (let e : length (replicate {A = ℕ} n 0) ≡ n = length-replicate n 0 in omega (arith, e, g))
    ]

none : (s : ℕ) → member (replicate 8 0) s ≡ 0
none s = ap (λ x. bit_at x (s % 64)) (zeros_only 8 (s / 64)) ∙ bit_at-zero (s % 64)

pub no_member : (s : ℕ) → IsTrue (has (replicate 8 0) s) → ⊥
no_member s h =
    let one = eqb-true (member (replicate 8 0) s) 1 h in
    let zero_here = none s in
    omega (arith, one, zero_here)

zero_only : (s : ℕ) → member zero_alone s ≡ 1 → s ≡ 0
zero_only s h =
    elim (cases_eq (s / 64) 0) [
      | inl first ↦
          elim (cases_eq (s % 64) 0) [
            | inl low ↦ omega (arith, first, low)
            | inr other ↦
                let one : member zero_alone s ≡ bit_at 1 (s % 64) =
                ap (λ k. bit_at (get_or zero_alone k 0) (s % 64)) first in
                let nothing : bit_at 1 (s % 64) ≡ 0 = bit_at-pow_other 0 (s % 64) other in
                absurd (omega (arith, h, one, nothing))
          ]
      | inr later ↦
          let past : s / 64 ≡ suc (s / 64 - 1) = omega (arith, later) in
          let one : member zero_alone s ≡ bit_at (get_or (replicate 7 0) (s / 64 - 1) 0) (s % 64) =
          ap (λ k. bit_at (get_or zero_alone k 0) (s % 64)) past in
          let nothing : bit_at (get_or (replicate 7 0) (s / 64 - 1) 0) (s % 64) ≡ 0 =
          ap (λ x. bit_at x (s % 64)) (zeros_only 7 (s / 64 - 1)) ∙ bit_at-zero (s % 64) in
          absurd (omega (arith, h, one, nothing))
    ]

pub has_says : (s : ℕ) → IsTrue (has zero_alone s) → s ≡ 0
has_says s h = zero_only s (eqb-true (member zero_alone s) 1 h)
