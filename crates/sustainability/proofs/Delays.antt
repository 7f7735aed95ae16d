-- Shared sets, evicted sets and union counts over the tasks that come from a larger set.
use Rattle.std.proofs.Common.{◌≡◌, ℕ, zero, suc, ◌<◌, ◌≤◌, Bool, true, false, ◌&&◌, inl, inr, refl}
use Rattle.std.proofs.Common.{subst, arith}
use Rattle.std.specs.Prelude.{min, if◌then◌else◌}
use Rattle.std.proofs.lemmas.Bool.{cases_Bool, cases_eq, or_cases, or_left, or_right}
use Rattle.crpd_base.specs.Sets.{has}
use Rattle.crpd_base.specs.Sum.{sum_below}
use Rattle.crpd_base.specs.declared.data.Part.{Part}
use Rattle.crpd_base.proofs.Sums.{sum_le}
use Rattle.delay_count.specs.Gamma.{set_share, union_count, shared_count, evicted_from}
use Rattle.sustainability.specs.Workload.{KeepsOrder, IsSubset}
use Rattle.sustainability.proofs.Counts.{sum_from, origin_up}

-- fewer useful and fewer evicted sets share no more
pub shared_le : (useful more evicted further : ℕ → Bool) (sets : ℕ)
    → ((c : ℕ) → useful c ≡ true → more c ≡ true)
    → ((c : ℕ) → evicted c ≡ true → further c ≡ true)
    → shared_count useful evicted sets ≤ shared_count more further sets
unfolding shared_count
shared_le useful more evicted further sets u e =
    sum_le (λ c. if useful c && evicted c then 1 else 0)
    (λ c. if more c && further c then 1 else 0) sets
    (λ c l. at (useful c) (evicted c) (more c) (further c) (u c) (e c))
  where
    at : (a b x y : Bool) → (a ≡ true → x ≡ true) → (b ≡ true → y ≡ true)
        → (if a && b then 1 else 0) ≤ (if x && y then 1 else 0)
    at true true x y p q = let l = p refl in let r = q refl in rw (l, r) (omega arith)
    at true false x y p q = omega arith
    at false b x y p q = omega arith

min_le : (a b c d : ℕ) → a ≤ c → b ≤ d → min a b ≤ min c d
min_le a b c d h k = omega arith

-- fewer jobs, evicted sets and useful sets have a smaller union count
pub union_from : (jobs larger : ℕ) (evicts further : ℕ → Bool) (useful more : ℕ → ℕ → Bool)
    (count bigger origin : ℕ → ℕ) (n m sets : ℕ) → KeepsOrder origin n m → jobs ≤ larger
    → ((c : ℕ) → evicts c ≡ true → further c ≡ true)
    → ((k c : ℕ) → k < n → useful k c ≡ true → more (origin k) c ≡ true)
    → ((k : ℕ) → k < n → count k ≤ bigger (origin k))
    → union_count jobs evicts useful count n sets ≤ union_count larger further more bigger m sets
unfolding union_count
union_from jobs larger evicts further useful more count bigger origin n m sets O j e u c =
    sum_le (λ s. if evicts s then set_share jobs useful count n s else 0)
    (λ s. if further s then set_share larger more bigger m s else 0) sets (λ s l.
    let inner : sum_below (λ k. if useful k s then count k else 0) n
    ≤ sum_below (λ k. if more k s then bigger k else 0) m =
    sum_from (λ k. if useful k s then count k else 0) (λ k. if more k s then bigger k else 0)
    origin n m O (λ k h. elim (cases_Bool (useful k s)) [
      | inl b ↦ let t = u k s h b in rw (b, t) (c k h)
      | inr b ↦ rw b (omega arith)
    ]) in
    elim (cases_Bool (evicts s)) [
      | inl b ↦ let t = e s b in rw (b, t) (min_le jobs _ larger _ j inner)
      | inr b ↦ rw b (omega arith)
    ])

-- what is evicted by a task or one above it is evicted by one of them
evicted_some : (parts : ℕ → Part) (j c : ℕ) → evicted_from parts j c ≡ true
    → (k : ℕ) × (k ≤ j) × (has (parts k).evicting c ≡ true)
evicted_some parts zero c h = (0, omega arith, h)
evicted_some parts (suc j) c h =
    elim (or_cases (has (parts (suc j)).evicting c) (evicted_from parts j c) h) [
      | inl b ↦ (suc j, omega arith, b)
      | inr b ↦ let r = evicted_some parts j c b in let l = r.1 in (r.0, omega (arith, l), r.2)
    ]

evicted_by : (parts : ℕ → Part) (k j c : ℕ) → k ≤ j → has (parts k).evicting c ≡ true
    → evicted_from parts j c ≡ true
evicted_by parts k zero c le h =
    let e : k ≡ 0 = omega arith in subst (λ x. has (parts x).evicting c ≡ true) e h
evicted_by parts k (suc j) c le h =
    elim (cases_eq k (suc j)) [
      | inl e ↦
          or_left (has (parts (suc j)).evicting c) (evicted_from parts j c)
          (subst (λ x. has (parts x).evicting c ≡ true) e h)
      | inr ne ↦
          or_right (has (parts (suc j)).evicting c) (evicted_from parts j c)
          (evicted_by parts k j c (omega arith) h)
    ]

-- and by the task's origin or one above it
pub evicted_origin : (less more : ℕ → Part) (origin : ℕ → ℕ) (n m j c : ℕ) → KeepsOrder origin n m
    → j < n → ((k : ℕ) → k < n → IsSubset (less k).evicting (more (origin k)).evicting)
    → evicted_from less j c ≡ true → evicted_from more (origin j) c ≡ true
evicted_origin less more origin n m j c O l S h =
    let s = evicted_some less j c h in
    let le = s.1 in
    evicted_by more (origin s.0) (origin j) c (origin_up origin n m s.0 j O le l)
    (S s.0 (omega (arith, le, l)) c s.2)
