-- The multiset delays are at most the plain ones.
use Rattle.std.proofs.Common.{◌≡◌, ℕ, zero, suc, ◌+◌, ◌*◌, ◌<◌, ◌≤◌, inl, inr, refl, sym, arith}
use Rattle.std.proofs.Common.{false, Bool, nat_le, if◌then◌else◌, ◌&&◌}
use Rattle.std.proofs.lemmas.Nat.{mul-le}
use Rattle.std.proofs.lemmas.Bool.{cases_Bool, cases_lt, leb-false, true≢false}
use Rattle.crpd_base.proofs.Sums.{sum_le, sum_times}
use Rattle.crpd_base.specs.declared.data.TaskSet.{TaskSet}
use Rattle.crpd_base.specs.declared.data.Part.{Part}
use Rattle.crpd_base.specs.declared.data.Method.{Method}
use Rattle.crpd_base.specs.declared.data.Method.TheVariants.{Ucb, Ecb}
use Rattle.crpd_base.specs.Sets.{has}
use Rattle.crpd_base.specs.Sum.{sum_below}
use Rattle.delay_count.specs.Counts.{jobs_of, affected_preemptions}
use Rattle.delay_count.specs.Gamma.{set_share, union_count, shared_count, shared_sets, ucb_count}
use Rattle.delay_count.specs.Gamma.{ecb_count}
use Rattle.delay_count.specs.Demand.{gamma, jobs_demand, higher_demand}
use Rattle.delay_classic.specs.Gamma.{useful_to_some, ucb_sets, ecb_sets, classic_gamma}
use Rattle.delay_classic.specs.Laws.{UcbWithin, EcbWithin, DemandWithin}
use Rattle.delay_count.proofs.Greatest.{greatest_ge}
use Rattle.delay_count.proofs.Choices.{choice_within}
use Rattle.delay_count.proofs.Times.{not_affected}

-- a cache set that no counted task finds useful has no share
module _ (useful : ℕ → ℕ → Bool) (count : ℕ → ℕ) (first c : ℕ)
    (none : (k : ℕ) → k < first → count k ≡ 0) where
  abbrev counts : ℕ → ℕ
  counts n = sum_below (λ k. if useful k c then count k else 0) n

  no_share : (n : ℕ) → useful_to_some useful first n c ≡ false → counts n ≡ 0
  no_share zero h = refl
  no_share (suc n) h =
      elim (cases_Bool (nat_le first n)) [
        | inr b ↦
            let z = none n (leb-false first n b) in
            let rest = no_share n (rw b at h) in
            elim (cases_Bool (useful n c)) [
              | inl u ↦ rw u (omega (arith, rest, z))
              | inr u ↦ rw u (omega (arith, rest))
            ]
        | inl b ↦
            elim (cases_Bool (useful n c)) [
              | inl u ↦ absurd (true≢false (rw (b, u) at h))
              | inr u ↦ let rest = no_share n (rw (b, u) at h) in rw u (omega (arith, rest))
            ]
      ]

union_within : (jobs : ℕ) (evicts : ℕ → Bool) (useful : ℕ → ℕ → Bool) (count : ℕ → ℕ)
    (first n sets : ℕ) → ((k : ℕ) → k < first → count k ≡ 0)
    → union_count jobs evicts useful count n sets
    ≤ jobs * shared_count (useful_to_some useful first n) evicts sets
unfolding union_count shared_count
union_within jobs evicts useful count first n sets none =
    let each : (c : ℕ) → c < sets
    → (if evicts c then set_share jobs useful count n c else 0)
    ≤ jobs * (if useful_to_some useful first n c && evicts c then 1 else 0) =
    λ c l.
    elim (cases_Bool (useful_to_some useful first n c)) [
      | inl u ↦ elim (cases_Bool (evicts c)) [
        | inl e ↦ rw (u, e) (omega arith)
        | inr e ↦ rw (u, e) (omega arith)
      ]
      | inr u ↦
          let z = no_share useful count first c none n u in
          elim (cases_Bool (evicts c)) [
            | inl e ↦ rw (u, e, z) (omega arith)
            | inr e ↦ rw (u, e) (omega arith)
          ]
    ] in
    omega (
      arith,
      sum_le (λ c. if evicts c then set_share jobs useful count n c else 0)
          (λ c. jobs * (if useful_to_some useful first n c && evicts c then 1 else 0)) sets each,
      sum_times jobs (λ c. if useful_to_some useful first n c && evicts c then 1 else 0) sets,
    )

pub ucb_within : UcbWithin
ucb_within set parts window w i j =
    let l = union_within (jobs_of set j w) (has (parts j).evicting) (λ k. has (parts k).useful)
    (affected_preemptions set window w i j) (suc j) (suc i) 512
    (λ k h. sym (not_affected set window w i j k (omega arith))) in
    let m = mul-le set.platform.miss (ucb_count set parts window w i j) set.platform.miss
    (jobs_of set j w * ucb_sets parts i j) (omega arith) l in
    omega (arith, m)

pub ecb_within : EcbWithin
ecb_within set parts window w i j =
    let l = choice_within (shared_sets parts j) (affected_preemptions set window w i j)
    (ecb_sets parts i j) (suc i) (jobs_of set j w) (λ k h.
    elim (cases_lt j k) [
      | inr le ↦ inl (sym (not_affected set window w i j k le))
      | inl lt ↦ inr (greatest_ge (shared_sets parts j) (suc j) (suc i) k (omega arith) h)
    ]) in
    let m = mul-le set.platform.miss (ecb_count set parts window w i j) set.platform.miss
    (ecb_sets parts i j * jobs_of set j w) (omega arith) l in
    omega (arith, m)

pub gamma_within : (set : TaskSet) (parts : ℕ → Part) (window : ℕ → ℕ) (w : ℕ) (method : Method)
    (i j : ℕ) → gamma set parts window w method i j ≤ classic_gamma set parts w method i j
gamma_within set parts window w Ucb i j = ucb_within set parts window w i j
gamma_within set parts window w Ecb i j = ecb_within set parts window w i j

pub demand_within : DemandWithin
demand_within set parts longest window i method w =
    let sums = sum_le (higher_demand set parts window w method i)
    (λ j. jobs_demand set parts w j + classic_gamma set parts w method i j) i
    (λ j h. let g = gamma_within set parts window w method i j in omega (arith, g)) in
    omega (arith, sums)
