-- For step 6: counting by sums, and items of lists by their places.
use Rattle.std.proofs.Common.{◌≡◌, ℕ, suc, ◌+◌, ◌*◌, ◌<◌, ◌≤◌, Bool, true, false, ◌&&◌, refl, sym}
use Rattle.std.proofs.Common.{◌∙◌, ap, subst, inl, inr, arith, ◌==◌, if◌then◌else◌, cond, List, []}
use Rattle.std.proofs.Common.{◌∷◌, length, get_or, map, count_by}
use Rattle.std.proofs.lemmas.Bool.{cases_Bool, false≢true, and_parts, eq-eqb, eqb-true}
use Rattle.std.proofs.lemmas.List.Recursion.{is_count_by}
use Rattle.crpd_base.proofs.Sums.{sum_le, sum_times, sum_ge, sum_swap, sum_onto, sum_same}
use Rattle.crpd_base.specs.Sum.{sum_below, one_if}
use Rattle.sound_laws.proofs.Windows.Releases.{count, one_le, count_none, at_most_one}

-- each number that passes is counted with one of the values to which it maps
pub spread : (p : ℕ → Bool) (f : ℕ → ℕ) (n m : ℕ) → ((x : ℕ) → x < n → p x ≡ true → f x < m)
    → count p n ≤ sum_below (λ y. count (λ x. p x && (f x == y)) n) m
spread p f n m below =
    let le = sum_le (λ x. if p x then 1 else 0)
    (λ x. sum_below (λ y. if p x && (f x == y) then 1 else 0) m) n (λ x l.
    elim (cases_Bool (p x)) [
      | inl b ↦
          let ge = sum_ge (λ y. if p x && (f x == y) then 1 else 0) m (f x) (below x l b) in
          let one : one_if (p x && (f x == f x)) ≡ 1 = rw (b, eq-eqb (f x) (f x) refl) refl in
          let lone : one_if (p x) ≡ 1 = rw b refl in
          omega (arith, ge, one, lone)
      | inr b ↦ let none : one_if (p x) ≡ 0 = rw b refl in omega (arith, none)
    ]) in
    let swapped = sum_swap (λ x y. if p x && (f x == y) then 1 else 0) n m in
    omega (arith, le, swapped)

-- numbers that map to different values with a property are at most as many as those values
pub inject : (p : ℕ → Bool) (f : ℕ → ℕ) (q : ℕ → Bool) (n m : ℕ)
    → ((x : ℕ) → x < n → p x ≡ true → f x < m) → ((x : ℕ) → x < n → p x ≡ true → q (f x) ≡ true)
    → ((x y : ℕ) → x < y → y < n → p x ≡ true → p y ≡ true → f x ≡ f y → ⊥) → count p n ≤ count q m
inject p f q n m below passes differ =
    let le = sum_le (λ y. count (λ x. p x && (f x == y)) n) (λ y. if q y then 1 else 0) m (λ y l.
    elim (cases_Bool (q y)) [
      | inl b ↦
          let one = at_most_one (λ x. p x && (f x == y)) n (λ x z k h a c.
          let pa = and_parts (p x) (f x == y) a in
          let pc = and_parts (p z) (f z == y) c in
          differ x z k h pa.0 pc.0 (eqb-true (f x) y pa.1 ∙ sym (eqb-true (f z) y pc.1))) in
          let is : one_if (q y) ≡ 1 = rw b refl in
          omega (arith, one, is)
      | inr b ↦
          let none = count_none (λ x. p x && (f x == y)) n (λ x h.
          elim (cases_Bool (p x && (f x == y))) [
            | inl a ↦
                let pa = and_parts (p x) (f x == y) a in
                absurd (false≢true (sym b
                ∙ subst (λ k. q k ≡ true) (eqb-true (f x) y pa.1) (passes x h pa.0)))
            | inr a ↦ a
          ]) in
          omega (arith, none)
    ]) in
    let s = spread p f n m below in
    omega (arith, s, le)

-- at most c for each of those that pass
pub each_at_most : (q : ℕ → Bool) (g : ℕ → ℕ) (c m : ℕ) → ((y : ℕ) → y < m → q y ≡ true → g y ≤ c)
    → ((y : ℕ) → y < m → q y ≡ false → g y ≡ 0) → sum_below g m ≤ c * count q m
each_at_most q g c m most none =
    let le = sum_le g (λ y. c * (if q y then 1 else 0)) m (λ y l.
    elim (cases_Bool (q y)) [
      | inl b ↦ let is : c * one_if (q y) ≡ c * 1 =
          rw b refl in let k = most y l b in omega (arith, is, k)
      | inr b ↦ let k = none y l b in omega (arith, k)
    ]) in
    let times = sum_times c (λ y. if q y then 1 else 0) m in
    omega (arith, le, times)

pub count_le : (p q : ℕ → Bool) (n : ℕ) → ((x : ℕ) → x < n → p x ≡ true → q x ≡ true)
    → count p n ≤ count q n
count_le p q n h =
    sum_le (λ x. if p x then 1 else 0) (λ x. if q x then 1 else 0) n
    (λ x l. one_le (p x) (q x) (h x l))

-- how many items pass a test
unfoldable pub counted : {X : Type 0} → (X → Bool) → List X → ℕ
counted p [] = 0
counted p (x ∷ xs) = cond (p x) (1 + counted p xs) (counted p xs)

pub counted_is : {X : Type 0} (p : X → Bool) (xs : List X) → counted p xs ≡ count_by p xs
counted_is {X} p xs =
    is_count_by (counted p) p (unfold counted in refl) (unfold counted in λ x more. refl) xs

-- as many as the places of such items
counted_places : {X : Type 0} (p : X → Bool) (d : X) (xs : List X)
    → counted p xs ≡ count (λ k. p (get_or xs k d)) (length xs)
unfolding counted
counted_places p d [] = refl
counted_places p d (x ∷ xs) =
    let f : ℕ → ℕ = λ k. one_if (p (get_or (x ∷ xs) k d)) in
    let head : counted p (x ∷ xs) ≡ one_if (p x) + counted p xs =
    elim (cases_Bool (p x)) [ inl b ↦ rw b refl | inr b ↦ rw b (omega arith) ] in
    let e : suc (length xs) ≡ 1 + length xs = omega arith in
    let split = ap (sum_below f) e ∙ sum_onto f 1 (length xs) in
    let each = sum_same (λ k. f (1 + k)) (λ k. one_if (p (get_or xs k d))) (length xs)
    (λ k l. let q : 1 + k ≡ suc k = omega arith in ap f q) in
    let rest = counted_places p d xs in
    omega (arith, head, split, each, rest)

pub count_places : {X : Type 0} (p : X → Bool) (d : X) (xs : List X)
    → count_by p xs ≡ count (λ k. p (get_or xs k d)) (length xs)
count_places p d xs = sym (counted_is p xs) ∙ counted_places p d xs

counted_map : {X Y : Type 0} (p : Y → Bool) (f : X → Y) (xs : List X)
    → counted p (map f xs) ≡ counted (λ x. p (f x)) xs
unfolding counted
counted_map p f [] = refl
counted_map p f (x ∷ xs) = ap (λ k. cond (p (f x)) (1 + k) k) (counted_map p f xs)

-- of a list whose items are mapped
pub count_map : {X Y : Type 0} (p : Y → Bool) (f : X → Y) (xs : List X)
    → count_by p (map f xs) ≡ count_by (λ x. p (f x)) xs
count_map p f xs = sym (counted_is p (map f xs)) ∙ counted_map p f xs ∙ counted_is (λ x. p (f x)) xs
