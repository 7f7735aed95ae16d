-- For steps 6 and 7: how many jobs are released in a window, and what they may spend.
use Rattle.std.proofs.Common.{◌≡◌, ℕ, zero, suc, ◌+◌, ◌*◌, ◌<◌, ◌≤◌, Bool, true, false, ◌&&◌, refl}
use Rattle.std.proofs.Common.{inl, inr, arith, nat_lt, nat_le, if◌then◌else◌}
use Rattle.std.proofs.lemmas.Bool.{cases_Bool, cases_lt, and_parts, and_from, ltb-true, leb-true}
use Rattle.std.proofs.lemmas.Bool.{lt-ltb, le-leb}
use Rattle.crpd_base.proofs.Sums.{sum_le, sum_add, sum_zero}
use Rattle.crpd_base.specs.Arrivals.{AreApart}
use Rattle.crpd_base.specs.Sum.{sum_below}
use Rattle.delay_count.specs.Counts.{jobs_in}

-- how many numbers below n pass a test
abbrev pub count : (ℕ → Bool) → ℕ → ℕ
count p n = sum_below (λ x. if p x then 1 else 0) n

pub one_le : (b c : Bool) → (b ≡ true → c ≡ true) → (if b then 1 else 0) ≤ (if c then 1 else 0)
one_le true c h = rw (h refl) (omega arith)
one_le false c h = omega arith

pub count_none : (p : ℕ → Bool) (n : ℕ) → ((x : ℕ) → x < n → p x ≡ false) → count p n ≡ 0
count_none p n h = sum_zero (λ x. if p x then 1 else 0) n (λ x l. rw (h x l))

pub at_most_one : (p : ℕ → Bool) (n : ℕ) → ((x y : ℕ) → x < y → y < n → p x ≡ true → p y ≡ true → ⊥)
    → count p n ≤ 1
at_most_one p zero h = omega arith
at_most_one p (suc n) h =
    elim (cases_Bool (p n)) [
      | inl b ↦
          let none = count_none p n
          (λ x l. elim (cases_Bool (p x)) [
            | inl q ↦ absurd (h x n l (omega arith) q b)
            | inr q ↦ q
          ]) in
          rw b (omega (arith, none))
      | inr b ↦ rw b (omega (arith, at_most_one p n (λ x y l m. h x y l (omega arith))))
    ]

-- whether a value is in a range
abbrev pub lies_in : ℕ → ℕ → ℕ → Bool
lies_in low high v = nat_le low v && nat_lt v high

-- at most q of the values that are a period apart are within q periods
module _ (p : ℕ → Bool) (v : ℕ → ℕ) (n period low : ℕ)
    (apart : (x y : ℕ) → x < y → y < n → p x ≡ true → p y ≡ true
    → AreApart period (v x) (v y)) where
  one_in_period : (from : ℕ) → count (λ x. p x && lies_in from (from + period) (v x)) n ≤ 1
  one_in_period from =
      at_most_one (λ x. p x && lies_in from (from + period) (v x)) n (λ x y l m a b.
      let px = and_parts _ _ a in
      let py = and_parts _ _ b in
      let rx = and_parts _ _ px.1 in
      let ry = and_parts _ _ py.1 in
      let x_low : from ≤ v x = leb-true _ _ rx.0 in
      let x_high : v x < from + period = ltb-true _ _ rx.1 in
      let y_low : from ≤ v y = leb-true _ _ ry.0 in
      let y_high : v y < from + period = ltb-true _ _ ry.1 in
      elim (apart x y l m px.0 py.0) [ inl q ↦ omega arith | inr q ↦ omega arith ])

  split : (x a b c : ℕ) → a ≤ b → b ≤ c
      → (if p x && lies_in a c (v x) then 1 else 0)
      ≤ (if p x && lies_in a b (v x) then 1 else 0) + (if p x && lies_in b c (v x) then 1 else 0)
  split x a b c h k =
      elim (cases_lt (v x) b) [
        | inl l ↦
            let le = one_le (p x && lies_in a c (v x)) (p x && lies_in a b (v x))
            (λ q. let both = and_parts (p x) (lies_in a c (v x)) q in
            and_from (p x) (lies_in a b (v x)) both.0
            (and_from _ _ (and_parts _ _ both.1).0 (lt-ltb _ _ l))) in
            omega (arith, le)
        | inr g ↦
            let le = one_le (p x && lies_in a c (v x)) (p x && lies_in b c (v x))
            (λ q. let both = and_parts (p x) (lies_in a c (v x)) q in
            and_from (p x) (lies_in b c (v x)) both.0
            (and_from _ _ (le-leb _ _ g) (and_parts _ _ both.1).1)) in
            omega (arith, le)
      ]

  pub few_in_periods : (q : ℕ) → count (λ x. p x && lies_in low (low + q * period) (v x)) n ≤ q
  few_in_periods zero =
      let none = count_none (λ x. p x && lies_in low (low + 0 * period) (v x)) n
      (λ x l. elim (cases_Bool (p x && lies_in low (low + 0 * period) (v x))) [
        | inl b ↦ let r = and_parts _ _ (and_parts (p x) _ b).1 in
            let a : low ≤ v x = leb-true _ _ r.0 in
            let c : v x < low + 0 * period = ltb-true _ _ r.1 in
            absurd (omega arith)
        | inr b ↦ b
      ]) in
      omega (arith, none)
  few_in_periods (suc q) =
      let le = sum_le (λ x. if p x && lies_in low (low + suc q * period) (v x) then 1 else 0)
      (λ x. (if p x && lies_in low (low + q * period) (v x) then 1 else 0)
      + (if p x && lies_in (low + q * period) ((low + q * period) + period) (v x) then 1 else 0)) n
      (λ x l. let e : low + suc q * period ≡ (low + q * period) + period = omega arith in
      rw e (split x low (low + q * period) ((low + q * period) + period) (omega arith)
      (omega arith))) in
      omega (
        arith,
        le,
        sum_add (λ x. if p x && lies_in low (low + q * period) (v x) then 1 else 0)
            (λ x. if p x && lies_in (low + q * period) ((low + q * period) + period) (v x)
            then 1 else 0) n,
        few_in_periods q,
        one_in_period (low + q * period),
      )

-- the jobs that are counted have room in that many periods
pub jobs_in_fits : (period jitter window : ℕ) → 0 < period
    → window + jitter ≤ jobs_in period jitter window * period
jobs_in_fits period jitter window h = omega arith
