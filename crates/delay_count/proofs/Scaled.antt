-- Delays by rates of jobs are lower bounds on delays by jobs.
use Rattle.std.proofs.Common.{◌≡◌, ℕ, zero, suc, ◌+◌, ◌-◌, ◌*◌, ◌/◌, ◌^◌, ◌<◌, ◌≤◌, inl, inr, Bool}
use Rattle.std.proofs.Common.{length, refl, sym, ap, subst, arith, min, nat_lt, if◌then◌else◌}
use Rattle.std.proofs.Common.{◌⊎◌, ◌∙◌}
use Rattle.std.proofs.Math.Nat.{mul-div_cancel_left}
use Rattle.std.proofs.lemmas.Nat.{mul-le}
use Rattle.std.proofs.lemmas.Bool.{cases_Bool, cases_eq, cases_lt, eq-eqb, ne_eqb}
use Rattle.crpd_base.specs.declared.data.Part.{Part}
use Rattle.crpd_base.specs.declared.data.TaskSet.{TaskSet}
use Rattle.crpd_base.specs.declared.data.Method.{Method}
use Rattle.crpd_base.specs.declared.data.Method.TheVariants.{Ucb, Ecb}
use Rattle.crpd_base.specs.Sets.{has}
use Rattle.crpd_base.specs.Sum.{sum_below}
use Rattle.crpd_base.specs.Tasks.{period_of, jitter_of, HasTimes}
use Rattle.delay_count.specs.Counts.{jobs_in, jobs_of, affected_preemptions}
use Rattle.delay_count.specs.Gamma.{set_share, union_count, greatest_choice, shared_sets}
use Rattle.delay_count.specs.Gamma.{evicted_from}
use Rattle.delay_count.specs.Inner.Filling.{IsNextValue, sum_at_value, sum_from_value, worth_from}
use Rattle.delay_count.specs.Demand.{gamma}
use Rattle.delay_count.specs.Inner.Rates.{gamma_by, release_rate, affected_rate}
use Rattle.delay_count.proofs.Bits.{shared_most}
use Rattle.delay_count.proofs.Choices.{choice_priced, priced_worth, full, finished, joined}
use Rattle.delay_count.proofs.Choices.{none_from}

under_quotient : (p x q : ℕ) → 1 ≤ p → q ≡ x / p → p * q ≤ x
under_quotient p x q some is = let e : p * q ≡ p * (x / p) = ap (λ z. p * z) is in omega arith

jobs_room : (period jitter window : ℕ) → 1 ≤ period → window ≤ jobs_in period jitter window * period
jobs_room period jitter window h = omega arith

-- a rate over a period, times a window, is at most that of the jobs in it
pub released : (set : TaskSet) (k least one rate w : ℕ) → 1 ≤ period_of set k
    → rate ≡ least * one / period_of set k → rate * w ≤ jobs_of set k w * least * one
released set k least one rate w some is =
    let low : period_of set k * rate ≤ least * one =
    under_quotient (period_of set k) (least * one) rate some is in
    let room : w ≤ jobs_of set k w * period_of set k =
    jobs_room (period_of set k) (jitter_of set k) w some in
    let a = mul-le rate w rate (jobs_of set k w * period_of set k) (omega arith) room in
    let b = mul-le (jobs_of set k w) (period_of set k * rate) (jobs_of set k w) (least * one)
    (omega arith) low in
    omega (arith, a, b)

-- sums, shares and counts of a set by set
sum_scaled : (f g : ℕ → ℕ) (w one n : ℕ) → ((k : ℕ) → k < n → f k * w ≤ g k * one)
    → sum_below f n * w ≤ sum_below g n * one
sum_scaled f g w one zero le = omega arith
sum_scaled f g w one (suc n) le =
    omega (arith, sum_scaled f g w one n (λ k h. le k (omega arith)), le n (omega arith))

min_scaled : (a b c d w one : ℕ) → a * w ≤ c * one → b * w ≤ d * one → min a b * w ≤ min c d * one
min_scaled a b c d w one h k =
    elim (cases_lt d c) [
      | inr l ↦ let m : min c d ≡ c =
          omega arith in let less =
          mul-le (min a b) w a w (omega arith) (omega arith) in rw m (omega (arith, less, h))
      | inl l ↦ let m : min c d ≡ d =
          omega arith in let less =
          mul-le (min a b) w b w (omega arith) (omega arith) in rw m (omega (arith, less, k))
    ]

union_scaled : (jobs jobs' : ℕ) (evicts : ℕ → Bool) (useful : ℕ → ℕ → Bool) (count count' : ℕ → ℕ)
    (n sets w one : ℕ)
    → jobs * w ≤ jobs' * one → ((k : ℕ) → k < n → count k * w ≤ count' k * one)
    → union_count jobs evicts useful count n sets * w
    ≤ union_count jobs' evicts useful count' n sets * one
unfolding union_count
union_scaled jobs jobs' evicts useful count count' n sets w one j c =
    sum_scaled (λ s. if evicts s then set_share jobs useful count n s else 0)
    (λ s. if evicts s then set_share jobs' useful count' n s else 0) w one sets (λ s l.
    let inner : sum_below (λ k. if useful k s then count k else 0) n * w
    ≤ sum_below (λ k. if useful k s then count' k else 0) n * one =
    sum_scaled (λ k. if useful k s then count k else 0) (λ k. if useful k s then count' k else 0) w
    one n (λ k h.
    elim (cases_Bool (useful k s)) [ inl b ↦ rw b (c k h) | inr b ↦ rw b (omega arith) ]) in
    elim (cases_Bool (evicts s)) [
      | inl b ↦ rw b (min_scaled jobs _ jobs' _ w one j inner)
      | inr b ↦ rw b (omega arith)
    ])

-- the largest choice is reached at a price
abbrev at_price : (ℕ → ℕ) → (ℕ → ℕ) → ℕ → ℕ → ℕ → ℕ
at_price value count price n budget =
    price * budget + sum_below (λ k. count k * (value k - price)) n

filled_at : (value count : ℕ → ℕ) (n budget next : ℕ)
    → sum_from_value value count (suc next) n ≤ budget
    → budget ≤ sum_from_value value count (suc next) n + sum_at_value value count n next
    → at_price value count next n budget ≤ greatest_choice value count n budget
filled_at value count n budget next room few =
    let is : IsNextValue value n (suc next) next = record {
      below = omega arith;
      greatest = λ k h l. omega arith;
    } in
    let all = full value count (suc next) next n budget (worth_from value count (suc next) n)
    (budget - sum_from_value value count (suc next) n) is refl (omega arith) (omega arith) in
    let even = priced_worth value count (suc next) next n is.below is.greatest in
    let parts : next * (sum_from_value value count (suc next) n
    + (budget - sum_from_value value count (suc next) n)) ≡ next * budget =
    ap (λ z. next * z) (omega arith) in
    omega (arith, all, even, parts)

finished_at : (value count : ℕ → ℕ) (n budget : ℕ) → sum_from_value value count 1 n ≤ budget
    → at_price value count 0 n budget ≤ greatest_choice value count n budget
finished_at value count n budget room =
    let is : IsNextValue value n 1 0 = record {
      below = omega arith;
      greatest = λ k h l. omega arith;
    } in
    let all = finished value count 1 0 n budget (worth_from value count 1 n)
    (budget - sum_from_value value count 1 n) is refl refl (omega arith) in
    let even = priced_worth value count 1 0 n is.below is.greatest in
    omega (arith, all, even)

priced_below : (value count : ℕ → ℕ) (n budget next : ℕ)
    → sum_from_value value count (suc next) n ≤ budget
    → (price : ℕ) × (at_price value count price n budget ≤ greatest_choice value count n budget)
priced_below value count n budget zero room = (0, finished_at value count n budget room)
priced_below value count n budget (suc next) room =
    let more = (joined value count (suc (suc next)) (suc next) n (omega arith)
    (λ k h l. omega arith)).0 in
    elim (cases_lt (sum_from_value value count (suc next) n) budget) [
      | inr l ↦ (suc next, filled_at value count n budget (suc next) room (omega (arith, more, l)))
      | inl l ↦ priced_below value count n budget next (omega arith)
    ]

choice_scaled : (value count count' : ℕ → ℕ) (n jobs jobs' most w one : ℕ)
    → ((k : ℕ) → k < n → value k ≤ most)
    → jobs * w ≤ jobs' * one → ((k : ℕ) → k < n → count k * w ≤ count' k * one)
    → greatest_choice value count n jobs * w ≤ greatest_choice value count' n jobs' * one
choice_scaled value count count' n jobs jobs' most w one few j c =
    let none = (none_from value count' (suc most) n (λ k h. omega (arith, few k h))).0 in
    let best = priced_below value count' n jobs' most (omega (arith, none)) in
    let up = choice_priced value count best.0 n jobs in
    let many = mul-le (greatest_choice value count n jobs) w (at_price value count best.0 n jobs) w
    up (omega arith) in
    let fewer = mul-le (at_price value count' best.0 n jobs') one
    (greatest_choice value count' n jobs') one best.1 (omega arith) in
    let budget = mul-le best.0 (jobs * w) best.0 (jobs' * one) (omega arith) j in
    let above = sum_scaled (λ k. count k * (value k - best.0)) (λ k. count' k * (value k - best.0))
    w one n (λ k h. omega (
      arith,
      mul-le (value k - best.0) (count k * w) (value k - best.0) (count' k * one)
          (omega arith) (c k h),
    )) in
    omega (arith, many, fewer, budget, above)

pub gamma_scaled : (method : Method) (miss : ℕ) (parts : ℕ → Part) (count count' : ℕ → ℕ)
    (jobs jobs' i j w one : ℕ)
    → jobs * w ≤ jobs' * one → ((k : ℕ) → k ≤ i → count k * w ≤ count' k * one)
    → gamma_by method miss parts count jobs i j * w
    ≤ gamma_by method miss parts count' jobs' i j * one
gamma_scaled Ucb miss parts count count' jobs jobs' i j w one h c =
    omega (
      arith,
      mul-le miss
          (union_count jobs (has (parts j).evicting) (λ k. has (parts k).useful) count
          (suc i) 512 * w) miss
          (union_count jobs' (has (parts j).evicting) (λ k. has (parts k).useful) count'
          (suc i) 512 * one) (omega arith)
          (union_scaled jobs jobs' (has (parts j).evicting) (λ k. has (parts k).useful) count count'
          (suc i) 512 w one h (λ k l. c k (omega arith))),
    )
gamma_scaled Ecb miss parts count count' jobs jobs' i j w one h c =
    omega (
      arith,
      mul-le miss (greatest_choice (shared_sets parts j) count (suc i) jobs * w) miss
          (greatest_choice (shared_sets parts j) count' (suc i) jobs' * one) (omega arith)
          (choice_scaled (shared_sets parts j) count count' (suc i) jobs jobs' 512 w one
          (λ k l. shared_most (has (parts k).useful) (evicted_from parts j) 512) h
          (λ k l. c k (omega arith))),
    )

-- jobs and preemptions by rates
release_low : (set : TaskSet) (k w : ℕ) → 1 ≤ period_of set k
    → release_rate set k * w ≤ jobs_of set k w * 2 ^ 63
release_low set k w some = omega (arith, released set k 1 (2 ^ 63) (release_rate set k) w some refl)

affected_low : (set : TaskSet) (window : ℕ → ℕ) (w i j k : ℕ) → HasTimes set → i < length set.tasks
    → j < i → k ≤ i → affected_rate set window i j k * w
    ≤ affected_preemptions set window w i j k * 2 ^ 63
affected_low set window w i j k times is l lk =
    elim (cases_Bool (nat_lt j k)) [
      | inr t ↦ rw t (omega arith)
      | inl t ↦
          elim (cases_eq k i) [
            | inl e ↦ let c =
                eq-eqb k i e in rw (t, c) (release_low set j w (times.period j (omega arith)))
            | inr ne ↦
                let c = ne_eqb k i ne in
                let low = release_low set k w (times.period k (omega arith)) in
                let many = mul-le (jobs_of set j (window k)) (release_rate set k * w)
                (jobs_of set j (window k)) (jobs_of set k w * 2 ^ 63) (omega arith) low in
                let less = mul-le
                (min (release_rate set j) (jobs_of set j (window k) * release_rate set k)) w
                (jobs_of set j (window k) * release_rate set k) w (omega arith) (omega arith) in
                rw (t, c) (omega (arith, many, less))
          ]
    ]

-- the delay by rates is at most the delay of a window
pub delay_low : (set : TaskSet) (parts : ℕ → Part) (window count : ℕ → ℕ) (i j jobs delay : ℕ)
    (method : Method) → HasTimes set → i < length set.tasks → j < i
    → delay ≡ gamma_by method set.platform.miss parts count jobs i j → jobs ≡ release_rate set j
    → ((k : ℕ) → k ≤ i → count k ≡ affected_rate set window i j k)
    → (w : ℕ) → delay * w ≤ gamma set parts window w method i j * 2 ^ 63
delay_low set parts window count i j jobs delay method times is l d e same w =
    let all = gamma_scaled method set.platform.miss parts count
    (affected_preemptions set window w i j) jobs (jobs_of set j w) i j w (2 ^ 63)
    (let r = release_low set j w (times.period j (omega arith)) in
    subst (λ (x : ℕ). x * w ≤ jobs_of set j w * 2 ^ 63) (sym e) r)
    (λ k h. let r = affected_low set window w i j k times is l h in
    subst (λ (x : ℕ). x * w ≤ affected_preemptions set window w i j k * 2 ^ 63)
    (sym (same k h)) r) in
    let g : gamma_by method set.platform.miss parts (affected_preemptions set window w i j)
    (jobs_of set j w) i j ≡ gamma set parts window w method i j = by_method method in
    let dw : delay * w ≡ gamma_by method set.platform.miss parts count jobs i j * w =
    ap (λ z. z * w) d in
    omega (arith, all, g, dw)
  where
    by_method : (method : Method)
        → gamma_by method set.platform.miss parts (affected_preemptions set window w i j)
        (jobs_of set j w) i j ≡ gamma set parts window w method i j
    by_method Ucb = refl
    by_method Ecb = refl

-- a job's cycles over its period, less than one unit off, or one
pub counted : (each period least : ℕ) → 1 ≤ period → least ≡ min each period
    → (least * 2 ^ 80 / period ≡ 2 ^ 80)
    ⊎ (each * 2 ^ 80 < (least * 2 ^ 80 / period + 1) * period)
counted each period least some is =
    elim (cases_lt each period) [
      | inl l ↦
          let same : each ≡ least = omega arith in
          let over : least * 2 ^ 80 < (least * 2 ^ 80 / period + 1) * period = omega arith in
          inr (omega (arith, over, same))
      | inr g ↦
          let same : least ≡ period = omega arith in
          inl (ap (λ z. z * 2 ^ 80 / period) same ∙ mul-div_cancel_left (2 ^ 80) {n = period} some)
    ]

-- the same with an added delay, at most one
pub at_least : (jobs rate delay need period : ℕ) → rate ≡ min (jobs + delay) (2 ^ 80)
    → (jobs ≡ 2 ^ 80) ⊎ (need < (jobs + 1) * period)
    → (rate ≡ 2 ^ 80) ⊎ (need < (rate + 1) * period)
at_least jobs rate delay need period is (inl full) = inl (omega arith)
at_least jobs rate delay need period is (inr few) =
    elim (cases_lt (jobs + delay) (2 ^ 80)) [
      | inl l ↦
          let more = mul-le (jobs + 1) period (rate + 1) period (omega arith) (omega arith) in
          inr (omega (arith, few, more))
      | inr g ↦ inl (omega arith)
    ]
