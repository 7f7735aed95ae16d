-- Tests.
use Rattle.std.proofs.Common.{◌≡◌, ℕ, zero, suc, ◌<◌, Bool, true, false, ◌&&◌, ◌||◌, IsTrue, refl}
use Rattle.std.proofs.Common.{sym, subst, inl, inr, arith, ◌∙◌, ◌==◌, eq-eqb, ne_eqb}
use Rattle.std.proofs.lemmas.Bool.{cases_eq, cases_lt, and_parts, false≢true}

-- a test or false is the test
pub or_false : (b : Bool) → (b || false) ≡ b
or_false true = refl
or_false false = refl

-- a test holds at each number below a bound
abbrev pub each : ℕ → (ℕ → Bool) → Bool
each zero test = true
each (suc n) test = each n test && test n

pub each_says : (n : ℕ) (test : ℕ → Bool) → IsTrue (each n test) → (k : ℕ) → k < n → IsTrue (test k)
each_says zero test t k l = absurd (omega (arith, l))
each_says (suc n) test t k l =
    let parts = and_parts (each n test) (test n) t in
    elim (cases_lt k n) [
      | inl below ↦ each_says n test parts.0 k below
      | inr above ↦ let q : k ≡ n =
          omega (arith, l, above) in subst (λ z. IsTrue (test z)) (sym q) parts.1
    ]

-- if the first holds, so does the second
abbrev pub needs : Bool → Bool → Bool
needs true b = b
needs false b = true

pub needed : (a b : Bool) → IsTrue (needs a b) → IsTrue a → IsTrue b
needed true b t h = t
needed false b t h = absurd (false≢true h)

-- equality of two numbers is symmetric
pub equal_swapped : (a b : ℕ) → (a == b) ≡ (b == a)
equal_swapped a b = elim (cases_eq a b) [
  | inl same ↦ eq-eqb a b same ∙ sym (eq-eqb b a (sym same))
  | inr other ↦ ne_eqb a b other ∙ sym (ne_eqb b a (λ e. other (sym e)))
]
