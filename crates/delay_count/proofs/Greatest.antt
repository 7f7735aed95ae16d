-- Largest values over the numbers below a bound.
use Rattle.std.proofs.Common.{◌≡◌, ℕ, zero, suc, ◌+◌, ◌-◌, ◌<◌, ◌≤◌, inl, inr, refl, sym, ◌∙◌, ap}
use Rattle.std.proofs.Common.{arith, true, nat_le, max}
use Rattle.std.proofs.lemmas.Bool.{cases_Bool, cases_eq, le-leb, lt-leb}
use Rattle.crpd_base.specs.declared.data.Switching.{Switching}
use Rattle.crpd_base.specs.declared.data.Switching.TheVariants.{Cycle, Instruction}
use Rattle.delay_count.specs.Gamma.{greatest_to}
use Rattle.delay_count.specs.Demand.{greatest_from, blocking}

-- of the numbers up to a last one
pub to_ge : (f : ℕ → ℕ) (n y : ℕ) → y ≤ n → f y ≤ greatest_to f n
to_ge f zero y h =
    let e : y ≡ 0 = omega arith in let same : f y ≡ f 0 = ap f e in omega (arith, same)
to_ge f (suc n) y h =
    elim (cases_eq y (suc n)) [
      | inl e ↦ let same : f y ≡ f (suc n) = ap f e in omega (arith, same)
      | inr ne ↦ let r = to_ge f n y (omega arith) in omega (arith, r)
    ]

pub to_le : (f : ℕ → ℕ) (n m : ℕ) → ((y : ℕ) → y ≤ n → f y ≤ m) → greatest_to f n ≤ m
to_le f zero m h = h 0 (omega arith)
to_le f (suc n) m h = omega (arith, h (suc n) (omega arith), to_le f n m (λ y l. h y (omega arith)))

-- of those from a first one on
pub greatest_ge : (f : ℕ → ℕ) (first n k : ℕ) → first ≤ k → k < n → f k ≤ greatest_from f first n
greatest_ge f first zero k from h = absurd (omega arith)
greatest_ge f first (suc n) k from h =
    let b : nat_le first n ≡ true = le-leb first n (omega arith) in
    elim (cases_eq k n) [
      | inl e ↦ let same : f k ≡ f n = ap f e in rw b (omega (arith, same))
      | inr ne ↦ let rest = greatest_ge f first n k from (omega arith) in rw b (omega (arith, rest))
    ]

pub greatest_le : (f : ℕ → ℕ) (first n most : ℕ) → ((k : ℕ) → k < n → f k ≤ most)
    → greatest_from f first n ≤ most
greatest_le f first zero most le = omega arith
greatest_le f first (suc n) most le =
    let rest = greatest_le f first n most (λ k h. le k (omega arith)) in
    let here = le n (omega arith) in
    elim (cases_Bool (nat_le first n)) [
      | inl b ↦ rw b (omega (arith, rest, here))
      | inr b ↦ rw b (omega arith)
    ]

pub greatest_grows : (f g : ℕ → ℕ) (first n : ℕ) → ((k : ℕ) → k < n → f k ≤ g k)
    → greatest_from f first n ≤ greatest_from g first n
greatest_grows f g first zero le = omega arith
greatest_grows f g first (suc n) le =
    let rest = greatest_grows f g first n (λ k h. le k (omega arith)) in
    let here = le n (omega arith) in
    elim (cases_Bool (nat_le first n)) [
      | inl b ↦ rw b (omega (arith, rest, here))
      | inr b ↦ rw b (omega arith)
    ]

pub greatest_same : (f g : ℕ → ℕ) (first n : ℕ) → ((k : ℕ) → k < n → f k ≡ g k)
    → greatest_from f first n ≡ greatest_from g first n
greatest_same f g first n same =
    let le = greatest_grows f g first n (λ k h. omega (arith, same k h)) in
    let ge = greatest_grows g f first n (λ k h. omega (arith, same k h)) in
    omega (arith, le, ge)

pub greatest_none : (f : ℕ → ℕ) (first n : ℕ) → n ≤ first → greatest_from f first n ≡ 0
greatest_none f first zero h = refl
greatest_none f first (suc n) h = let b = lt-leb first n (omega arith) in rw b refl

-- one more
pub greatest_more : (f : ℕ → ℕ) (first n : ℕ) → first ≤ n
    → greatest_from f first (suc n) ≡ max (f n) (greatest_from f first n)
greatest_more f first n h = let b = le-leb first n h in rw b refl

-- the same values, moved
pub greatest_moved : (f g : ℕ → ℕ) (first n : ℕ) → ((k : ℕ) → k < n → f k ≡ g (first + k))
    → greatest_from f 0 n ≡ greatest_from g first (first + n)
greatest_moved f g first zero same =
    let e : first + 0 ≡ first = omega arith in
    rw e (sym (greatest_none g first first (omega arith)))
greatest_moved f g first (suc n) same =
    let e : first + suc n ≡ suc (first + n) = omega arith in
    let rest = greatest_moved f g first n (λ k h. same k (omega arith)) in
    let here = same n (omega arith) in
    let a = greatest_more f 0 n (omega arith) in
    let b = greatest_more g first (first + n) (omega arith) in
    rw e (a ∙ ap (λ z. max z (greatest_from f 0 n)) here
    ∙ ap (λ z. max (g (first + n)) z) rest ∙ sym b)

-- blocking by an instruction begun before
pub blocking_grows : (mode : Switching) (f g : ℕ → ℕ) (i n : ℕ) → ((k : ℕ) → k < n → f k ≤ g k)
    → blocking mode f i n ≤ blocking mode g i n
blocking_grows Cycle f g i n h = omega arith
blocking_grows Instruction f g i n h =
    greatest_grows (λ k. f k - 1) (λ k. g k - 1) i n (λ k l. omega (arith, h k l))

pub blocking_same : (mode : Switching) (f g : ℕ → ℕ) (i n : ℕ) → ((k : ℕ) → k < n → f k ≡ g k)
    → blocking mode f i n ≡ blocking mode g i n
blocking_same Cycle f g i n h = refl
blocking_same Instruction f g i n h =
    greatest_same (λ k. f k - 1) (λ k. g k - 1) i n (λ k l. ap (λ z. z - 1) (h k l))
