-- Lines of pairs, in sequence.
use Rattle.std.proofs.Common.{◌≡◌, ℕ, ◌+◌, ◌<◌, List, [], ◌∷◌, ◌++◌, length, get_or, take, min, sym}
use Rattle.std.proofs.Common.{ap, ◌∙◌, arith, flat_map, zip}
use Rattle.std.proofs.lemmas.List.{flat_map_more, take_all, take_more}
use Rattle.std.proofs.lemmas.Slice.Zip.{get_or-zip, length-zip}

module _ {A B : Type 0} (line : A × B → List ℕ) (ks : List A) (vs : List B) (head : List ℕ) where
  pub one_line_more : (n m : ℕ) (k : A) (v : B) (old new : List ℕ) → m ≡ n + 1 → n < length ks
      → n < length vs → k ≡ get_or ks n k → v ≡ get_or vs n v
      → old ≡ head ++ flat_map line (take n (zip ks vs)) → new ≡ old ++ line (k, v)
      → new ≡ head ++ flat_map line (take m (zip ks vs))
  one_line_more n m k v old new is below_first below_second at_first at_second before added =
      let below : n < length (zip ks vs) = omega (arith, length-zip ks vs) in
      let same : get_or (zip ks vs) n (k, v) ≡ (k, v) =
      get_or-zip ks vs n (k, v) below_first below_second
      ∙ ap (λ x. (x, get_or vs n v)) (sym at_first) ∙ ap (λ y. (k, y)) (sym at_second) in
      added ∙ ap (λ t. t ++ line (k, v)) before
      ∙ flat_map_more line head (take n (zip ks vs)) (k, v)
      ∙ ap (λ ps. head ++ flat_map line ps)
      (ap (λ p. take n (zip ks vs) ++ p ∷ []) (sym same)
      ∙ sym (take_more (zip ks vs) n (k, v) below) ∙ ap (λ i. take i (zip ks vs)) (sym is))

  pub all_the_lines : (n : ℕ) (text : List ℕ) → n ≡ min (length ks) (length vs)
      → text ≡ head ++ flat_map line (take n (zip ks vs)) → text ≡ head ++ flat_map line (zip ks vs)
  all_the_lines n text e is =
      is ∙ ap (λ ps. head ++ flat_map line ps)
      (take_all n (zip ks vs) (omega (arith, length-zip ks vs)))
