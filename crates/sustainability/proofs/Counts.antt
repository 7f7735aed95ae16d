-- Jobs, sums and largest values over the tasks that come from a larger set.
use Rattle.std.proofs.Common.{◌≡◌, ℕ, zero, suc, ◌+◌, ◌-◌, ◌*◌, ◌<◌, ◌≤◌, inl, inr, ap, arith}
use Rattle.std.specs.Prelude.{min, nat_le}
use Rattle.std.proofs.lemmas.Nat.{mul-le}
use Rattle.std.proofs.lemmas.Bool.{cases_Bool, cases_lt, leb-true}
use Rattle.crpd_base.specs.Sum.{sum_below}
use Rattle.crpd_base.proofs.Sums.{sum_part}
use Rattle.delay_count.specs.Counts.{jobs_in}
use Rattle.delay_count.specs.Gamma.{greatest_choice}
use Rattle.delay_count.specs.Demand.{greatest_from}
use Rattle.sustainability.specs.Workload.{KeepsOrder}
use Rattle.delay_count.proofs.Greatest.{to_ge, to_le, greatest_ge}

-- no more jobs with a longer period, a smaller jitter and a shorter window
pub jobs_le : (period longer small jitter window wide : ℕ) → 1 ≤ period → period ≤ longer
    → small ≤ jitter → window ≤ wide → jobs_in longer small window ≤ jobs_in period jitter wide
jobs_le period longer small jitter window wide some long less short =
    elim (cases_lt (jobs_in period jitter wide) (jobs_in longer small window)) [
      | inr l ↦ l
      | inl l ↦
          let many = mul-le longer (jobs_in period jitter wide + 1) longer
          (jobs_in longer small window) (omega arith) (omega arith) in
          let few = mul-le period (jobs_in period jitter wide) longer
          (jobs_in period jitter wide) long (omega arith) in
          absurd (omega (arith, many, few))
    ]

-- the tasks before the last one come from those before its origin
pub order_before : (origin : ℕ → ℕ) (n m : ℕ) → KeepsOrder origin (suc n) m
    → KeepsOrder origin n (origin n)
order_before origin n m O = record {
  within = λ k l. O.rising k n l (omega arith);
  rising = λ j k l h. O.rising j k l (omega arith);
}

-- a sum over them is at most that over the larger set
pub sum_from : (f g origin : ℕ → ℕ) (n m : ℕ) → KeepsOrder origin n m
    → ((k : ℕ) → k < n → f k ≤ g (origin k)) → sum_below f n ≤ sum_below g m
sum_from f g origin zero m O le = omega arith
sum_from f g origin (suc n) m O le =
    let rest = sum_from f g origin n (origin n) (order_before origin n m O)
    (λ k l. le k (omega arith)) in
    let here = le n (omega arith) in
    let part = sum_part g m (origin n) (O.within n (omega arith)) in
    omega (arith, rest, here, part)

-- a largest value from some task on
pub greatest_within : (f : ℕ → ℕ) (first n most : ℕ)
    → ((k : ℕ) → first ≤ k → k < n → f k ≤ most) → greatest_from f first n ≤ most
greatest_within f first zero most le = omega arith
greatest_within f first (suc n) most le =
    let rest = greatest_within f first n most (λ k h l. le k h (omega arith)) in
    elim (cases_Bool (nat_le first n)) [
      | inl b ↦
          let here = le n (leb-true first n b) (omega arith) in rw b (omega (arith, rest, here))
      | inr b ↦ rw b (omega arith)
    ]

pub origin_up : (origin : ℕ → ℕ) (n m i k : ℕ) → KeepsOrder origin n m → i ≤ k → k < n
    → origin i ≤ origin k
origin_up origin n m i k O le l =
    elim (cases_lt i k) [
      | inl lt ↦ let r = O.rising i k lt l in omega (arith, r)
      | inr ge ↦ let e : i ≡ k = omega arith in rw e (omega arith)
    ]

pub greatest_le : (f g origin : ℕ → ℕ) (n m i : ℕ) → KeepsOrder origin n m
    → ((k : ℕ) → k < n → f k ≤ g (origin k))
    → greatest_from f i n ≤ greatest_from g (origin i) m
greatest_le f g origin n m i O le =
    greatest_within f i n (greatest_from g (origin i) m) (λ k from l.
    let here = le k l in
    let up = origin_up origin n m i k O from l in
    let at = greatest_ge g (origin i) m (origin k) up (O.within k l) in
    omega (arith, here, at))

-- a largest choice among more tasks
pub choice_longer : (value count : ℕ → ℕ) (n m budget : ℕ) → n ≤ m
    → greatest_choice value count n budget ≤ greatest_choice value count m budget
choice_longer value count n zero budget le = let e : n ≡ 0 = omega arith in rw e (omega arith)
choice_longer value count n (suc m) budget le =
    elim (cases_lt n (suc m)) [
      | inr ge ↦ let e : n ≡ suc m = omega arith in rw e (omega arith)
      | inl lt ↦
          let rest = choice_longer value count n m budget (omega arith) in
          let all : budget - 0 ≡ budget = omega arith in
          let same = ap (λ b. greatest_choice value count m b) all in
          let none = to_ge (λ x. greatest_choice value count m (budget - x) + value m * x)
          (min (count m) budget) 0 (omega arith) in
          omega (arith, rest, none, same)
    ]

-- so many of one task, and a choice among those before it
pub choice_part : (value count : ℕ → ℕ) (k m budget x : ℕ) → k < m → x ≤ count k → x ≤ budget
    → greatest_choice value count k (budget - x) + value k * x
    ≤ greatest_choice value count m budget
choice_part value count k m budget x l few room =
    let at = to_ge (λ y. greatest_choice value count k (budget - y) + value k * y)
    (min (count k) budget) x (omega arith) in
    let rest = choice_longer value count (suc k) m budget (omega arith) in
    omega (arith, at, rest)

pub choice_from : (value more count further origin : ℕ → ℕ) (n m budget larger : ℕ)
    → KeepsOrder origin n m
    → ((k : ℕ) → k < n → value k ≤ more (origin k))
    → ((k : ℕ) → k < n → count k ≤ further (origin k)) → budget ≤ larger
    → greatest_choice value count n budget ≤ greatest_choice more further m larger
choice_from value more count further origin zero m budget larger O v c b = omega arith
choice_from value more count further origin (suc n) m budget larger O v c b =
    to_le (λ x. greatest_choice value count n (budget - x) + value n * x) (min (count n) budget)
    (greatest_choice more further m larger) (λ x h.
    let rest = choice_from value more count further origin n (origin n) (budget - x) (larger - x)
    (order_before origin n m O)
    (λ k l. v k (omega arith)) (λ k l. c k (omega arith)) (omega arith) in
    let few = c n (omega arith) in
    let here = mul-le (value n) x (more (origin n)) x (v n (omega arith)) (omega arith) in
    let part = choice_part more further (origin n) m larger x (O.within n (omega arith))
    (omega (arith, few)) (omega arith) in
    omega (arith, rest, here, part))
