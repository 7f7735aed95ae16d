-- Lists whose elements have strictly increasing keys.
use Rattle.std.proofs.Common.{◌≡◌, ℕ, suc, ◌<◌, ◌≤◌, List, [], ◌∷◌, refl, ap, ◌∙◌, inl, inr, arith}
use Rattle.std.specs.Prelude.{All, AllPairs, Contains, map}
use Rattle.crpd_base.proofs.Elements.{head_or_rest, contains_mapped, in_none, pairs_head}
use Rattle.crpd_base.proofs.Elements.{pairs_tail}

abbrev Rise : {X : Type 0} → (X → ℕ) → List X → Type 0
Rise {X} key xs = AllPairs (λ (x y : X). key x < key y) xs

-- the first key is the smallest
first_least : {X : Type 0} (key : X → ℕ) (x : X) (xs : List X) (n : ℕ) → Rise key (x ∷ xs)
    → Contains (map key (x ∷ xs)) n → key x ≤ n
first_least {X} key x xs n r c =
    let found = contains_mapped key (x ∷ xs) n c in
    elim (head_or_rest xs found.0 x found.1) [
      | inl e ↦ let q = ap key e ∙ found.2 in omega (arith, q)
      | inr (k, lt, e) ↦
          let later = pairs_head (λ (x y : X). key x < key y) x xs r k found.0 lt in
          let q = ap key e ∙ found.2 in
          omega (arith, later, q)
    ]

-- a key above the first is one of the rest
above_first : {X : Type 0} (key : X → ℕ) (x : X) (xs : List X) (n : ℕ) → key x < n
    → Contains (map key (x ∷ xs)) n → Contains (map key xs) n
above_first key x xs n lt c = elim (head_or_rest (map key xs) n (key x) c) [
  | inl e ↦ absurd (omega (arith, e, lt))
  | inr rest ↦ rest
]

-- two such lists with the same keys are equal, if two elements with equal keys are equal
module _ {X : Type 0} (P : X → Type 0) (key : X → ℕ)
    (one : (x y : X) → P x → P y → key x ≡ key y → x ≡ y) where
  pub same_rising : (xs ys : List X) → All P xs → All P ys
      → AllPairs (λ (x y : X). key x < key y) xs → AllPairs (λ (x y : X). key x < key y) ys
      → All (λ (x : X). Contains (map key ys) (key x)) xs
      → All (λ (x : X). Contains (map key xs) (key x)) ys → xs ≡ ys
  same_rising [] [] p q r s f g = refl
  same_rising [] (y ∷ ys) p q r s f g = absurd (in_none (key y) (g 0 y (omega arith)))
  same_rising (x ∷ xs) [] p q r s f g = absurd (in_none (key x) (f 0 x (omega arith)))
  same_rising (x ∷ xs) (y ∷ ys) p q r s f g =
      let le = first_least key x xs (key y) r (g 0 y (omega arith)) in
      let ge = first_least key y ys (key x) s (f 0 x (omega arith)) in
      let here : x ≡ y = one x y (p 0 x (omega arith)) (q 0 y (omega arith)) (omega (arith, le, ge))
      in
      let rest : xs ≡ ys = same_rising xs ys (λ k d l. p (suc k) d (omega (arith, l)))
      (λ k d l. q (suc k) d (omega (arith, l))) (pairs_tail (λ (x y : X). key x < key y) x xs r)
      (pairs_tail (λ (x y : X). key x < key y) y ys s)
      (λ k d l.
      let later = pairs_head (λ (x y : X). key x < key y) x xs r k d l in
      above_first key y ys _ (omega (arith, later, ge)) (f (suc k) d (omega (arith, l))))
      (λ k d l.
      let later = pairs_head (λ (x y : X). key x < key y) y ys s k d l in
      above_first key x xs _ (omega (arith, later, le)) (g (suc k) d (omega (arith, l)))) in
      ap (λ z. z ∷ xs) here ∙ ap (λ zs. y ∷ zs) rest
