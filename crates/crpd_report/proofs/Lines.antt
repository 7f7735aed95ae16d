-- Lines of places, in sequence.
use Rattle.std.proofs.Common.{◌≡◌, ℕ, zero, suc, ◌+◌, List, [], ◌∷◌, ◌++◌}
use Rattle.std.proofs.Common.{sym, ap, ◌∙◌, arith}
use Rattle.std.specs.List.{flat_map, range_with_len}
use Rattle.std.proofs.lemmas.List.{flat_map_more}

-- one more place
range_more : (a n k : ℕ) → a + n ≡ k → range_with_len a (suc n) ≡ range_with_len a n ++ k ∷ []
range_more a zero k e = let same : a ≡ k = omega (arith, e) in ap (λ z. z ∷ []) same
range_more a (suc n) k e = ap (λ zs. a ∷ zs) (range_more (a + 1) n k (omega (arith, e)))

module _ (line : ℕ → List ℕ) (head : List ℕ) where
  pub one_place_more : (n : ℕ) (old new : List ℕ) → old ≡ head ++ flat_map line (range_with_len 0 n)
      → new ≡ old ++ line n → new ≡ head ++ flat_map line (range_with_len 0 (n + 1))
  one_place_more n old new before added =
      let next : suc n ≡ n + 1 = omega arith in
      added ∙ ap (λ t. t ++ line n) before ∙ flat_map_more line head (range_with_len 0 n) n
      ∙ ap (λ ps. head ++ flat_map line ps)
      (sym (range_more 0 n n (omega arith)) ∙ ap (range_with_len 0) next)
