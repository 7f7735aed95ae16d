-- The number of shared sets, as the sets and the evicted ones grow.
use Rattle.std.proofs.Common.{◌≡◌, ◌≢◌, ℕ, suc, ◌+◌, ◌<◌, ◌≤◌, Bool, true, false, ◌&&◌, not, refl}
use Rattle.std.proofs.Common.{arith, if◌then◌else◌}
use Rattle.crpd_base.proofs.Sums.{sum_le, sum_same, sum_add, sum_zero, sum_change}
use Rattle.delay_count.specs.Gamma.{shared_count}
use Rattle.delay_count.specs.Demand.{greatest_from}
use Rattle.delay_count.proofs.Greatest.{greatest_ge, greatest_le}

-- if more are evicted, at least as many are shared
pub evicting_more : (sets evicted more : ℕ → Bool) (n : ℕ)
    → ((c : ℕ) → evicted c ≡ true → more c ≡ true)
    → shared_count sets evicted n ≤ shared_count sets more n
unfolding shared_count
evicting_more sets evicted more n h =
    sum_le (λ c. if sets c && evicted c then 1 else 0) (λ c. if sets c && more c then 1 else 0) n
    (λ c l. at (sets c) (evicted c) (more c) (h c))
  where
    at : (s e m : Bool) → (e ≡ true → m ≡ true)
        → (if s && e then 1 else 0) ≤ (if s && m then 1 else 0)
    at true true m i = let b = i refl in rw b (omega arith)
    at true false m i = omega arith
    at false e m i = omega arith

-- sets that are all known share no more with additional evicted ones
pub inside_same : (sets known evicted : ℕ → Bool) (n : ℕ)
    → ((c : ℕ) → sets c ≡ true → known c ≡ true) → ((c : ℕ) → known c ≡ true → evicted c ≡ true)
    → shared_count sets evicted n ≡ shared_count sets known n
unfolding shared_count
inside_same sets known evicted n h i =
    sum_same (λ c. if sets c && evicted c then 1 else 0) (λ c. if sets c && known c then 1 else 0) n
    (λ c l. at (sets c) (known c) (evicted c) (h c) (i c))
  where
    at : (s k e : Bool) → (s ≡ true → k ≡ true) → (k ≡ true → e ≡ true)
        → ◌≡◌ {A = ℕ} (if s && e then 1 else 0) (if s && k then 1 else 0)
    at true k e a b = let x = a refl in let y = b x in rw (x, y) refl
    at false k e a b = refl

-- additional evicted sets raise the number of shared ones by at most their number
pub further_few : (sets known evicted : ℕ → Bool) (n : ℕ)
    → shared_count sets evicted n
    ≤ shared_count sets known n + shared_count (λ c. not (known c)) evicted n
unfolding shared_count
further_few sets known evicted n =
    let le = sum_le (λ c. if sets c && evicted c then 1 else 0)
    (λ c. (if sets c && known c then 1 else 0) + (if not (known c) && evicted c then 1 else 0)) n
    (λ c l. at (sets c) (known c) (evicted c)) in
    let both = sum_add (λ c. if sets c && known c then 1 else 0)
    (λ c. if not (known c) && evicted c then 1 else 0) n in
    omega (arith, le, both)
  where
    at : (s k e : Bool)
        → (if s && e then 1 else 0)
        ≤ (if s && k then 1 else 0) + (if not k && e then 1 else 0)
    at true true true = omega arith
    at true true false = omega arith
    at true false true = omega arith
    at true false false = omega arith
    at false k e = omega arith

-- nothing is shared if nothing is evicted
pub none_evicted : (sets evicted : ℕ → Bool) (n : ℕ) → ((c : ℕ) → evicted c ≡ false)
    → shared_count sets evicted n ≡ 0
unfolding shared_count
none_evicted sets evicted n h =
    sum_zero (λ c. if sets c && evicted c then 1 else 0) n (λ c l. at (sets c) (evicted c) (h c))
  where
    at : (s e : Bool) → e ≡ false → ◌≡◌ {A = ℕ} (if s && e then 1 else 0) 0
    at true e h = rw h refl
    at false e h = refl

-- sets that agree on all evicted sets share equally many
pub agreeing_same : (sets others evicted : ℕ → Bool) (n : ℕ)
    → ((c : ℕ) → evicted c ≡ true → sets c ≡ others c)
    → shared_count sets evicted n ≡ shared_count others evicted n
unfolding shared_count
agreeing_same sets others evicted n h =
    sum_same (λ c. if sets c && evicted c then 1 else 0) (λ c. if others c && evicted c then 1
    else 0) n (λ c l. at (sets c) (others c) (evicted c) (h c))
  where
    at : (s o e : Bool) → (e ≡ true → s ≡ o)
        → ◌≡◌ {A = ℕ} (if s && e then 1 else 0) (if o && e then 1 else 0)
    at s o true i = let b = i refl in rw b refl
    at true true false i = refl
    at true false false i = refl
    at false true false i = refl
    at false false false i = refl

-- one more evicted set, one more shared set
pub shared_more : (sets more evicted : ℕ → Bool) (n s : ℕ) → s < n → evicted s ≡ true
    → sets s ≡ false → more s ≡ true → ((c : ℕ) → c ≢ s → more c ≡ sets c)
    → shared_count more evicted n ≡ shared_count sets evicted n + 1
unfolding shared_count
shared_more sets more evicted n s l e none new others =
    let up = sum_change (λ c. if sets c && evicted c then 1 else 0)
    (λ c. if more c && evicted c then 1 else 0) n s 0 1 l (rw (e, none, new) (omega arith))
    (λ c h ne. let o = others c ne in rw o (omega arith)) in
    let down = sum_change (λ c. if more c && evicted c then 1 else 0)
    (λ c. if sets c && evicted c then 1 else 0) n s 1 0 l (rw (e, none, new) (omega arith))
    (λ c h ne. let o = others c ne in rw o (omega arith)) in
    omega (arith, up, down)

-- one more number
pub shared_next : (sets evicted : ℕ → Bool) (n : ℕ)
    → shared_count sets evicted (suc n)
    ≡ shared_count sets evicted n + (if sets n && evicted n then 1 else 0)
unfolding shared_count
shared_next sets evicted n = refl

-- no number at all
pub shared_none : (sets evicted : ℕ → Bool) → shared_count sets evicted 0 ≡ 0
unfolding shared_count
shared_none sets evicted = refl

-- values that are larger by at most d have a largest one that is larger by at most d
pub greatest_within : (f g : ℕ → ℕ) (d n : ℕ) → ((k : ℕ) → k < n → f k ≤ g k + d)
    → greatest_from f 0 n ≤ greatest_from g 0 n + d
greatest_within f g d n h =
    greatest_le f 0 n (greatest_from g 0 n + d)
    (λ k l. let a = h k l in let b = greatest_ge g 0 n k (omega arith) l in omega (arith, a, b))
