-- Sums over the numbers below a bound.
use Rattle.std.proofs.Common.{◌≡◌, ◌≢◌, ℕ, zero, suc, ◌+◌, ◌*◌, ◌<◌, ◌≤◌, inl, inr, ⊎_elim, refl}
use Rattle.std.proofs.Common.{subst, sym, ◌∙◌, ap, arith, ◌==◌, if◌then◌else◌}
use Rattle.std.proofs.lemmas.Bool.{cases_eq, cases_lt, eq-eqb, ne_eqb}
use Rattle.crpd_base.specs.Sum.{sum_below}

-- sums of equal terms
pub sum_same : (f g : ℕ → ℕ) (n : ℕ) → ((k : ℕ) → k < n → f k ≡ g k) → sum_below f n ≡ sum_below g n
sum_same f g zero same = refl
sum_same f g (suc n) same =
    omega (arith, sum_same f g n (λ k h. same k (omega arith)), same n (omega arith))

-- a sum of terms that are each at most those of another sum
pub sum_le : (f g : ℕ → ℕ) (n : ℕ) → ((k : ℕ) → k < n → f k ≤ g k) → sum_below f n ≤ sum_below g n
sum_le f g zero le = omega arith
sum_le f g (suc n) le = omega (arith, sum_le f g n (λ k h. le k (omega arith)), le n (omega arith))

-- terms that are at most those of another sum, and one of them smaller
pub sum_lt : (f h : ℕ → ℕ) (n s : ℕ) → ((k : ℕ) → k < n → f k ≤ h k) → s < n → f s < h s
    → sum_below f n < sum_below h n
sum_lt f h zero s le lt less = absurd (omega arith)
sum_lt f h (suc n) s le lt less =
    ⊎_elim
    (λ (e : s ≡ n). let here : f n < h n = subst (λ k. f k < h k) e less in
    omega (arith, here, sum_le f h n (λ k below. le k (omega arith))))
    (λ (ne : s ≢ n). omega (
      arith,
      sum_lt f h n s (λ k below. le k (omega arith)) (omega arith) less,
      le n (omega arith),
    ))
    (cases_eq s n)

-- a sum of sums of two terms
pub sum_add : (f g : ℕ → ℕ) (n : ℕ) → sum_below (λ k. f k + g k) n ≡ sum_below f n + sum_below g n
sum_add f g zero = refl
sum_add f g (suc n) = omega (arith, sum_add f g n)

-- a sum of multiples
pub sum_times : (a : ℕ) (f : ℕ → ℕ) (n : ℕ) → sum_below (λ k. a * f k) n ≡ a * sum_below f n
sum_times a f zero = omega arith
sum_times a f (suc n) = omega (arith, sum_times a f n)

-- a sum of zeros
pub sum_zero : (f : ℕ → ℕ) (n : ℕ) → ((k : ℕ) → k < n → f k ≡ 0) → sum_below f n ≡ 0
sum_zero f zero none = refl
sum_zero f (suc n) none =
    omega (arith, sum_zero f n (λ k h. none k (omega arith)), none n (omega arith))

-- a sum of terms of at most m
pub sum_most : (f : ℕ → ℕ) (m n : ℕ) → ((k : ℕ) → k < n → f k ≤ m) → sum_below f n ≤ n * m
sum_most f m zero le = omega arith
sum_most f m (suc n) le =
    omega (arith, sum_most f m n (λ k h. le k (omega arith)), le n (omega arith))

-- a sum in two parts
pub sum_onto : (f : ℕ → ℕ) (a n : ℕ)
    → sum_below f (a + n) ≡ sum_below f a + sum_below (λ k. f (a + k)) n
sum_onto f a zero = let e : a + 0 ≡ a = omega arith in rw e (omega arith)
sum_onto f a (suc n) =
    let e : a + suc n ≡ suc (a + n) = omega arith in rw e (omega (arith, sum_onto f a n))

-- one term is at most a sum, with those before it
pub sum_part : (f : ℕ → ℕ) (n k : ℕ) → k < n → sum_below f k + f k ≤ sum_below f n
sum_part f zero k h = absurd (omega arith)
sum_part f (suc n) k h =
    elim (cases_lt k n) [
      | inl l ↦ omega (arith, sum_part f n k l)
      | inr l ↦ let e : k ≡ n =
          omega arith in
          subst (λ q. sum_below f q + f q ≤ sum_below f n + f n) (sym e) (omega arith)
    ]

-- a term is at most the sum
pub sum_ge : (f : ℕ → ℕ) (n y : ℕ) → y < n → f y ≤ sum_below f n
sum_ge f n y h = let p = sum_part f n y h in omega (arith, p)

-- a sum of more terms is no smaller
pub sum_mono : (f : ℕ → ℕ) (m n : ℕ) → m ≤ n → sum_below f m ≤ sum_below f n
sum_mono f m zero h = let e : m ≡ 0 = omega arith in rw e (omega arith)
sum_mono f m (suc n) h =
    elim (cases_eq m (suc n)) [
      | inl e ↦ rw e (omega arith)
      | inr ne ↦ omega (arith, sum_mono f m n (omega arith))
    ]

-- a sum of sums, in the other order
pub sum_swap : (g : ℕ → ℕ → ℕ) (n m : ℕ)
    → sum_below (λ x. sum_below (g x) m) n ≡ sum_below (λ j. sum_below (λ x. g x j) n) m
sum_swap g zero m = sym (sum_zero (λ j. 0) m (λ x l. refl))
sum_swap g (suc n) m =
    ap (λ k. k + sum_below (g n) m) (sum_swap g n m)
    ∙ sym (sum_add (λ j. sum_below (λ x. g x j) n) (g n) m)

-- c at y, and 0 everywhere else
abbrev pub only : ℕ → ℕ → ℕ → ℕ
only y c x = if x == y then c else 0

-- the value at y
pub only_same : (y c : ℕ) → only y c y ≡ c
only_same y c = rw (eq-eqb y y refl)

-- the value everywhere else
pub only_other : (y c x : ℕ) → x ≢ y → only y c x ≡ 0
only_other y c x ne = rw (ne_eqb x y ne)

-- the sum over that function
pub sum_only : (y c n : ℕ) → y < n → sum_below (only y c) n ≡ c
sum_only y c zero h = absurd (omega arith)
sum_only y c (suc n) h =
    elim (cases_eq n y) [
      | inl e ↦ let before : sum_below (only y c) n ≡ 0 =
          sum_zero (only y c) n (λ x l. only_other y c x (λ q. omega arith)) in
          let here : only y c n ≡ c = rw e (only_same y c) in omega (arith, before, here)
      | inr ne ↦ let l : y < n = omega arith in omega (arith, sum_only y c n l, only_other y c n ne)
    ]

-- one term grows by at most b minus a, and the others don't grow
pub sum_change : (f g : ℕ → ℕ) (n y a b : ℕ) → y < n → g y + a ≤ f y + b
    → ((x : ℕ) → x < n → x ≢ y → g x ≤ f x) → sum_below g n + a ≤ sum_below f n + b
sum_change f g n y a b l here others =
    let all : sum_below (λ x. g x + only y a x) n ≤ sum_below (λ x. f x + only y b x) n =
    sum_le (λ x. g x + only y a x) (λ x. f x + only y b x) n (λ x below. elim (cases_eq x y) [
      | inl e ↦ rw (e, only_same y a, only_same y b) here
      | inr ne ↦ omega (arith, others x below ne, only_other y a x ne, only_other y b x ne)
    ]) in
    omega (
      arith,
      all,
      sum_add g (only y a) n,
      sum_add f (only y b) n,
      sum_only y a n l,
      sum_only y b n l,
    )

-- the same, if another term falls by at least c
pub sum_change_two : (f g : ℕ → ℕ) (n y a b o c : ℕ) → y < n → o < n → y ≢ o → g y + a ≤ f y + b
    → g o + c ≤ f o → ((x : ℕ) → x ≢ y → x ≢ o → g x ≤ f x)
    → sum_below g n + a + c ≤ sum_below f n + b
sum_change_two f g n y a b o c l lo ne here there others =
    let one : sum_below (λ x. g x + only o c x) n + a ≤ sum_below f n + b =
    sum_change f (λ x. g x + only o c x) n y a b l (omega (arith, here, only_other o c y ne))
    (λ x below nx. elim (cases_eq x o) [
      | inl e ↦ rw (e, only_same o c) there
      | inr away ↦ omega (arith, others x nx away, only_other o c x away)
    ]) in
    omega (arith, one, sum_add g (only o c) n, sum_only o c n lo)
