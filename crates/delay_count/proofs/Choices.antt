-- The largest choice is reached by filling from the largest value downwards.
use Rattle.std.proofs.Common.{◌≡◌, ◌≢◌, ℕ, zero, suc, ◌+◌, ◌-◌, ◌*◌, ◌<◌, ◌≤◌, ◌⊎◌, inl, inr, refl}
use Rattle.std.proofs.Common.{◌∙◌, ap, arith, add-one, true, false}
use Rattle.std.specs.Prelude.{min, ◌==◌, nat_le, if◌then◌else◌}
use Rattle.std.proofs.lemmas.Nat.{mul-le}
use Rattle.std.proofs.lemmas.Bool.{cases_Bool, cases_eq, cases_lt, eq-eqb, ne_eqb, le-leb, lt-leb}
use Rattle.std.proofs.lemmas.Bool.{leb-true, leb-false}
use Rattle.crpd_base.proofs.Sums.{sum_zero, sum_most}
use Rattle.crpd_base.specs.Sum.{sum_below}
use Rattle.delay_count.specs.Gamma.{greatest_choice}
use Rattle.delay_count.specs.Inner.Filling.{IsNextValue, sum_at_value, sum_from_value, worth_from}
use Rattle.delay_count.proofs.Greatest.{to_ge, to_le}

-- the largest choice does not decrease as the values, the counts and the budget grow
pub choice_le : (value value' count count' : ℕ → ℕ) (n budget budget' : ℕ)
    → ((k : ℕ) → k < n → value k ≤ value' k) → ((k : ℕ) → k < n → count k ≤ count' k)
    → budget ≤ budget'
    → greatest_choice value count n budget ≤ greatest_choice value' count' n budget'
choice_le value value' count count' zero budget budget' v c b = omega arith
choice_le value value' count count' (suc n) budget budget' v c b =
    to_le (λ x. greatest_choice value count n (budget - x) + value n * x) (min (count n) budget)
    (greatest_choice value' count' (suc n) budget') (λ x h.
    let rest = choice_le value value' count count' n (budget - x) (budget' - x)
    (λ k l. v k (omega arith)) (λ k l. c k (omega arith)) (omega arith) in
    let here = mul-le (value n) x (value' n) x (v n (omega arith)) (omega arith) in
    let cn = c n (omega arith) in
    let at = to_ge (λ y. greatest_choice value' count' n (budget' - y) + value' n * y)
    (min (count' n) budget') x (omega (arith, cn)) in
    omega (arith, rest, here, at))

pub choice_same : (value value' count : ℕ → ℕ) (n budget : ℕ)
    → ((k : ℕ) → k < n → value k ≡ value' k)
    → greatest_choice value count n budget ≡ greatest_choice value' count n budget
choice_same value value' count n budget same =
    let up = choice_le value value' count count n budget budget (λ k l. omega (arith, same k l))
    (λ k l. omega arith) (omega arith) in
    let down = choice_le value' value count count n budget budget (λ k l. omega (arith, same k l))
    (λ k l. omega arith) (omega arith) in
    omega (arith, up, down)

above_price : (v p x : ℕ) → v * x ≤ p * x + x * (v - p)
above_price v p x =
    let l : v ≤ p + (v - p) = omega arith in
    let m = mul-le v x (p + (v - p)) x l (omega arith) in
    omega (arith, m)

-- the largest choice is at most the budget times a price, and what the counts bring above the price
pub choice_priced : (value count : ℕ → ℕ) (price n budget : ℕ)
    → greatest_choice value count n budget
    ≤ price * budget + sum_below (λ k. count k * (value k - price)) n
choice_priced value count price zero budget = omega arith
choice_priced value count price (suc n) budget =
    to_le (λ x. greatest_choice value count n (budget - x) + value n * x) (min (count n) budget)
    (price * budget
    + (sum_below (λ k. count k * (value k - price)) n + count n * (value n - price))) (λ x h.
    let rest = choice_priced value count price n (budget - x) in
    let b : (budget - x) + x ≡ budget = omega arith in
    let pb : price * ((budget - x) + x) ≡ price * budget = ap (λ z. price * z) b in
    let above = mul-le x (value n - price) (count n) (value n - price) (omega arith)
    (omega arith) in
    let here = above_price (value n) price x in
    omega (arith, rest, pb, above, here))

-- what the counts bring above a price that is the largest value below a level
pub priced_worth : (value count : ℕ → ℕ) (level price n : ℕ) → price < level
    → ((k : ℕ) → k < n → value k < level → value k ≤ price)
    → sum_below (λ k. count k * (value k - price)) n + price * sum_from_value value count level n
    ≡ worth_from value count level n
priced_worth value count level price zero h g = omega arith
priced_worth value count level price (suc n) h g =
    let rest = priced_worth value count level price n h (λ k l. g k (omega arith)) in
    elim (cases_Bool (nat_le level (value n))) [
      | inl b ↦
          let l : level ≤ value n = leb-true level (value n) b in
          let e : (value n - price) + price ≡ value n = omega arith in
          let ce : count n * ((value n - price) + price) ≡ count n * value n =
          ap (λ z. count n * z) e in
          rw b (omega (arith, rest, ce))
      | inr b ↦
          let l : value n < level = leb-false level (value n) b in
          let z : value n - price ≡ 0 = omega (arith, g n (omega arith) l) in
          let cz : count n * (value n - price) ≡ count n * 0 = ap (λ z. count n * z) z in
          rw b (omega (arith, rest, cz))
    ]

-- one more task, in its three cases
at_level : (value count : ℕ → ℕ) (level next n : ℕ) → next < level → level ≤ value n
    → (sum_from_value value count level (suc n) ≡ sum_from_value value count level n + count n)
    × (worth_from value count level (suc n) ≡ worth_from value count level n + count n * value n)
    × (sum_at_value value count (suc n) next ≡ sum_at_value value count n next)
at_level value count level next n h l =
    let b : nat_le level (value n) ≡ true = le-leb level (value n) l in
    let d : (value n == next) ≡ false = ne_eqb (value n) next (omega arith) in
    (rw b refl, rw b refl, rw d (omega arith))

at_next : (value count : ℕ → ℕ) (level next n : ℕ) → next < level → value n ≡ next
    → (sum_from_value value count level (suc n) ≡ sum_from_value value count level n)
    × (worth_from value count level (suc n) ≡ worth_from value count level n)
    × (sum_at_value value count (suc n) next ≡ sum_at_value value count n next + count n)
at_next value count level next n h e =
    let b : nat_le level (value n) ≡ false = lt-leb level (value n) (omega arith) in
    let d : (value n == next) ≡ true = eq-eqb (value n) next e in
    (rw b (omega arith), rw b (omega arith), rw d refl)

at_none : (value count : ℕ → ℕ) (level next n : ℕ) → value n < level → value n ≢ next
    → (sum_from_value value count level (suc n) ≡ sum_from_value value count level n)
    × (worth_from value count level (suc n) ≡ worth_from value count level n)
    × (sum_at_value value count (suc n) next ≡ sum_at_value value count n next)
at_none value count level next n h ne =
    let b : nat_le level (value n) ≡ false = lt-leb level (value n) h in
    let d : (value n == next) ≡ false = ne_eqb (value n) next ne in
    (rw b (omega arith), rw b (omega arith), rw d (omega arith))

-- the filling is a choice
filled : (value count : ℕ → ℕ) (level next n budget r : ℕ) → next < level
    → r ≤ sum_at_value value count n next → sum_from_value value count level n + r ≤ budget
    → worth_from value count level n + next * r ≤ greatest_choice value count n budget
filled value count level next zero budget r h few room =
    let z : r ≡ 0 = omega arith in
    let nz : next * r ≡ next * 0 = ap (λ x. next * x) z in omega (arith, nz)
filled value count level next (suc n) budget r h few room =
    elim (cases_lt (value n) level) [
      | inr l ↦
          let s = at_level value count level next n h l in
          let rest = filled value count level next n (budget - count n) r h (omega (arith, s.2))
          (omega (arith, s.0)) in
          let at = to_ge (λ x. greatest_choice value count n (budget - x) + value n * x)
          (min (count n) budget) (count n) (omega (arith, s.0)) in
          omega (arith, rest, at, s.1)
      | inl l ↦
          elim (cases_eq (value n) next) [
            | inl e ↦
                let s = at_next value count level next n h e in
                let rest = filled value count level next n (budget - min (count n) r)
                (r - min (count n) r) h (omega (arith, s.2)) (omega (arith, s.0)) in
                let at = to_ge (λ x. greatest_choice value count n (budget - x) + value n * x)
                (min (count n) budget) (min (count n) r) (omega (arith, s.0)) in
                let parts : next * ((r - min (count n) r) + min (count n) r) ≡ next * r =
                ap (λ z. next * z) (omega arith) in
                let same : value n * min (count n) r ≡ next * min (count n) r =
                ap (λ z. z * min (count n) r) e in
                omega (arith, rest, at, s.1, parts, same)
            | inr ne ↦
                let s = at_none value count level next n l ne in
                let rest = filled value count level next n (budget - 0) r h (omega (arith, s.2))
                (omega (arith, s.0)) in
                let at = to_ge (λ x. greatest_choice value count n (budget - x) + value n * x)
                (min (count n) budget) 0 (omega arith) in
                omega (arith, rest, at, s.1)
          ]
    ]

-- the largest choice, if what is left goes to the next value
pub full : (value count : ℕ → ℕ) (level next n jobs charged room : ℕ)
    → IsNextValue value n level next
    → charged ≡ worth_from value count level n → sum_from_value value count level n + room ≡ jobs
    → room ≤ sum_at_value value count n next
    → charged + room * next ≡ greatest_choice value count n jobs
full value count level next n jobs charged room is worth left few =
    let up = choice_priced value count next n jobs in
    let even = priced_worth value count level next n is.below is.greatest in
    let all : next * (sum_from_value value count level n + room) ≡ next * jobs =
    ap (λ z. next * z) left in
    let down = filled value count level next n jobs room is.below few (omega arith) in
    omega (arith, up, even, all, down)

-- and if no value is left
pub finished : (value count : ℕ → ℕ) (level next n jobs charged room : ℕ)
    → IsNextValue value n level next → next ≡ 0
    → charged ≡ worth_from value count level n → sum_from_value value count level n + room ≡ jobs
    → charged ≡ greatest_choice value count n jobs
finished value count level next n jobs charged room is none worth left =
    let up = choice_priced value count next n jobs in
    let even = priced_worth value count level next n is.below is.greatest in
    let zero_all : next * jobs ≡ 0 * jobs = ap (λ z. z * jobs) none in
    let zero_from : next * sum_from_value value count level n
    ≡ 0 * sum_from_value value count level n =
    ap (λ z. z * sum_from_value value count level n) none in
    let down = filled value count level next n jobs 0 is.below (omega arith) (omega arith) in
    omega (arith, up, even, zero_all, zero_from, down)

-- the next value joins those from the level on
pub joined : (value count : ℕ → ℕ) (level next n : ℕ) → next < level
    → ((k : ℕ) → k < n → value k < level → value k ≤ next)
    → (sum_from_value value count next n
    ≡ sum_from_value value count level n + sum_at_value value count n next)
    × (worth_from value count next n
    ≡ worth_from value count level n + sum_at_value value count n next * next)
joined value count level next zero h g = (refl, omega arith)
joined value count level next (suc n) h g =
    let rest = joined value count level next n h (λ k l. g k (omega arith)) in
    elim (cases_lt (value n) level) [
      | inr l ↦
          let s = at_level value count level next n h l in
          let b : nat_le next (value n) ≡ true = le-leb next (value n) (omega arith) in
          let c : sum_from_value value count next (suc n)
          ≡ sum_from_value value count next n + count n = rw b refl in
          let w : worth_from value count next (suc n)
          ≡ worth_from value count next n + count n * value n = rw b refl in
          let m : sum_at_value value count (suc n) next * next
          ≡ sum_at_value value count n next * next = ap (λ z. z * next) s.2 in
          (omega (arith, rest.0, s.0, s.2, c), omega (arith, rest.1, s.1, m, w))
      | inl l ↦
          elim (cases_eq (value n) next) [
            | inl e ↦
                let s = at_next value count level next n h e in
                let b : nat_le next (value n) ≡ true = le-leb next (value n) (omega arith) in
                let c : sum_from_value value count next (suc n)
                ≡ sum_from_value value count next n + count n = rw b refl in
                let w : worth_from value count next (suc n)
                ≡ worth_from value count next n + count n * value n = rw b refl in
                let v : count n * value n ≡ count n * next = ap (λ z. count n * z) e in
                let m : sum_at_value value count (suc n) next * next
                ≡ (sum_at_value value count n next + count n) * next = ap (λ z. z * next) s.2 in
                (omega (arith, rest.0, s.0, s.2, c), omega (arith, rest.1, s.1, m, w, v))
            | inr ne ↦
                let s = at_none value count level next n l ne in
                let lt : value n < next = let le = g n (omega arith) l in omega arith in
                let s' = at_none value count next next n lt ne in
                let m : sum_at_value value count (suc n) next * next
                ≡ sum_at_value value count n next * next = ap (λ z. z * next) s.2 in
                (omega (arith, rest.0, s.0, s.2, s'.0), omega (arith, rest.1, s.1, m, s'.1))
          ]
    ]

-- no value is at least a level above all
pub none_from : (value count : ℕ → ℕ) (level n : ℕ) → ((k : ℕ) → k < n → value k < level)
    → (sum_from_value value count level n ≡ 0) × (worth_from value count level n ≡ 0)
none_from value count level zero h = (refl, refl)
none_from value count level (suc n) h =
    let rest = none_from value count level n (λ k l. h k (omega arith)) in
    let s = at_none value count level level n (h n (omega arith)) (let l = h n (omega arith) in
    omega arith) in
    (omega (arith, rest.0, s.0), omega (arith, rest.1, s.1))

pub counted_most : (value count : ℕ → ℕ) (v m n : ℕ) → ((k : ℕ) → k < n → count k ≤ m)
    → sum_at_value value count n v ≤ n * m
counted_most value count v m n h =
    sum_most (λ k. if value k == v then count k else 0) m n
    (λ k l. elim (cases_Bool (value k == v)) [ inl b ↦ rw b (h k l) | inr b ↦ rw b (omega arith) ])

-- one more count, of the value or of a different one
pub counted_more : (value count : ℕ → ℕ) (n v found all : ℕ) {here : ℕ}
    → found ≡ sum_at_value value count n v → value n ≡ v → all ≡ found + here → count n ≡ here
    → all ≡ sum_at_value value count (n + 1) v
counted_more value count n v found all before e sum is =
    let b : (value n == v) ≡ true = eq-eqb (value n) v e in
    rw (add-one n, b) (omega arith)

pub counted_other : (value count : ℕ → ℕ) (n v found all : ℕ) → found ≡ sum_at_value value count n v
    → value n ≢ v → all ≡ found → all ≡ sum_at_value value count (n + 1) v
counted_other value count n v found all before ne same =
    let b : (value n == v) ≡ false = ne_eqb (value n) v ne in
    rw (add-one n, b) (omega arith)

-- a choice is at most the budget times the largest value with a count
pub choice_within : (value count : ℕ → ℕ) (most n budget : ℕ)
    → ((k : ℕ) → k < n → (count k ≡ 0) ⊎ (value k ≤ most))
    → greatest_choice value count n budget ≤ most * budget
choice_within value count most n budget h =
    let none : sum_below (λ k. count k * (value k - most)) n ≡ 0 =
    sum_zero (λ k. count k * (value k - most)) n (λ k l.
    elim (h k l) [
      | inl z ↦ ap (λ y. y * (value k - most)) z ∙ omega arith
      | inr v ↦ let z : value k - most ≡ 0 = omega arith in ap (λ y. count k * y) z ∙ omega arith
    ]) in
    omega (arith, choice_priced value count most n budget, none)

-- and at least what any single one of them brings
pub choice_most : (value count x : ℕ → ℕ) (n budget : ℕ) → ((k : ℕ) → k < n → x k ≤ count k)
    → sum_below x n ≤ budget
    → sum_below (λ k. value k * x k) n ≤ greatest_choice value count n budget
choice_most value count x zero budget each all = omega arith
choice_most value count x (suc n) budget each all =
    let rest = choice_most value count x n (budget - x n) (λ k l. each k (omega arith))
    (omega (arith, all)) in
    let here = each n (omega arith) in
    let at = to_ge (λ y. greatest_choice value count n (budget - y) + value n * y)
    (min (count n) budget) (x n) (omega (arith, here, all)) in
    omega (arith, rest, at)
