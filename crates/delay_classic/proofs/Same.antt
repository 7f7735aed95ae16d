-- The plain demands of the same parts and costs.
use Rattle.std.proofs.Common.{◌≡◌, ℕ, zero, suc, ◌+◌, ◌*◌, ◌<◌, length, refl, sym, ◌∙◌, ap, arith}
use Rattle.std.specs.Prelude.{Bool, nat_le, ◌&&◌, ◌||◌}
use Rattle.crpd_base.proofs.Sums.{sum_same}
use Rattle.crpd_base.specs.declared.data.TaskSet.{TaskSet}
use Rattle.crpd_base.specs.declared.data.Part.{Part}
use Rattle.crpd_base.specs.declared.data.Method.{Method}
use Rattle.crpd_base.specs.declared.data.Method.TheVariants.{Ucb, Ecb}
use Rattle.crpd_base.specs.Sets.{has}
use Rattle.delay_count.specs.Counts.{jobs_of}
use Rattle.delay_count.specs.Gamma.{shared_sets, evicted_from}
use Rattle.delay_count.specs.Demand.{own_demand, jobs_demand}
use Rattle.delay_classic.specs.Gamma.{useful_to_some, ucb_sets, ecb_sets, classic_gamma}
use Rattle.delay_classic.specs.Demand.{classic_demand}
use Rattle.delay_count.proofs.Delays.{shared_same}
use Rattle.delay_count.proofs.Growth.{evicted_same}
use Rattle.delay_count.proofs.Greatest.{greatest_same, blocking_same}

some_same : (f g : ℕ → ℕ → Bool) (first n c : ℕ) → ((k : ℕ) → k < n → f k c ≡ g k c)
    → useful_to_some f first n c ≡ useful_to_some g first n c
some_same f g first zero c same = refl
some_same f g first (suc n) c same =
    ap (λ z. (nat_le first n && z) || useful_to_some f first n c) (same n (omega arith))
    ∙ ap (λ z. (nat_le first n && g n c) || z)
    (some_same f g first n c (λ k h. same k (omega arith)))

module _ (set : TaskSet) (parts others : ℕ → Part) (longest further : ℕ → ℕ) (i : ℕ)
    (is : i < length set.tasks)
    (P : (k : ℕ) → k < length set.tasks → parts k ≡ others k)
    (L : (k : ℕ) → k < length set.tasks → longest k ≡ further k) where
  own_same : own_demand set parts longest i ≡ own_demand set others further i
  own_same =
      let b = ap (λ (p : Part). p.bound) (P i is) in
      let m = blocking_same set.platform.switching longest further i (length set.tasks) L in
      omega (arith, b, m)

  ucb_same : (j : ℕ) → j < i → ucb_sets parts i j ≡ ucb_sets others i j
  ucb_same j h =
      shared_same (useful_to_some (λ k. has (parts k).useful) (suc j) (suc i))
      (useful_to_some (λ k. has (others k).useful) (suc j) (suc i)) (has (parts j).evicting)
      (has (others j).evicting) 512
      (λ c. some_same (λ k. has (parts k).useful) (λ k. has (others k).useful) (suc j) (suc i) c
      (λ k l. ap (λ (p : Part). has p.useful c) (P k (omega arith))))
      (λ c. ap (λ (p : Part). has p.evicting c) (P j (omega arith)))

  ecb_same : (j : ℕ) → j < i → ecb_sets parts i j ≡ ecb_sets others i j
  ecb_same j h =
      greatest_same (shared_sets parts j) (shared_sets others j) (suc j) (suc i)
      (λ k l. shared_same (has (parts k).useful) (has (others k).useful) (evicted_from parts j)
      (evicted_from others j) 512
      (λ c. ap (λ (p : Part). has p.useful c) (P k (omega arith)))
      (λ c. evicted_same parts others j c
      (λ q m. sym (ap (λ (p : Part). p.evicting) (P q (omega arith))))))

  gamma_same : (w : ℕ) (method : Method) (j : ℕ) → j < i
      → classic_gamma set parts w method i j ≡ classic_gamma set others w method i j
  gamma_same w Ucb j h = ap (λ z. set.platform.miss * jobs_of set j w * z) (ucb_same j h)
  gamma_same w Ecb j h = ap (λ z. set.platform.miss * jobs_of set j w * z) (ecb_same j h)

  pub classic_same : (method : Method) (w : ℕ)
      → classic_demand set parts longest i method w ≡ classic_demand set others further i method w
  classic_same method w =
      let sums = sum_same
      (λ j. jobs_demand set parts w j + classic_gamma set parts w method i j)
      (λ j. jobs_demand set others w j + classic_gamma set others w method i j) i
      (λ j h.
      let g = gamma_same w method j h in
      let b = ap (λ (p : Part).
      jobs_of set j w * (p.bound + (set.platform.switch + set.platform.switch)))
      (P j (omega arith)) in
      omega (arith, g, b)) in
      let own = own_same in
      omega (arith, sums, own)
