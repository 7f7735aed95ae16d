-- The numbers of a set, in sequence.
use Rattle.std.proofs.Common.{◌≡◌, ℕ, suc, ◌+◌, Bool, true, false, List, [], ◌∷◌, ◌++◌, ap, sym}
use Rattle.std.proofs.Common.{◌∙◌, arith, flat_map, ◌↔◌, IsTrue}
use Rattle.std.proofs.lemmas.List.{append-nil, append_assoc}
use Rattle.std.proofs.lemmas.Grind.{flat_map-append}
use Rattle.std.proofs.lemmas.Bool.Decides.{Decides-eqb, same_from_decides}
use Rattle.crpd_base.specs.Sets.{has, member}
use Rattle.crpd_report.specs.List.{those_below}
use Rattle.crpd_report.proofs.Addresses.{none_more, one_more}

module _ (line : ℕ → List ℕ) (p : ℕ → Bool) (head text : List ℕ) where
  pub passed : (n m : ℕ) → m ≡ n + 1 → p n ≡ true → text ≡ head ++ flat_map line (those_below n p)
      → text ++ line n ≡ head ++ flat_map line (those_below m p)
  passed n m is has_it e =
      ap (λ t. t ++ line n) e ∙ append_assoc head (flat_map line (those_below n p)) (line n)
      ∙ ap (λ l. head ++ l)
      (ap (λ l. flat_map line (those_below n p) ++ l) (sym (append-nil (line n)))
      ∙ sym (flat_map-append line (those_below n p) (n ∷ []))
      ∙ ap (flat_map line) (sym (one_more p n has_it) ∙ ap (λ k. those_below k p)
      (let e : suc n ≡ m = omega arith in e)))

  pub failed : (n m : ℕ) → m ≡ n + 1 → p n ≡ false → text ≡ head ++ flat_map line (those_below n p)
      → text ≡ head ++ flat_map line (those_below m p)
  failed n m is lacks_it e =
      e ∙ ap (λ ks. head ++ flat_map line ks)
      (sym (none_more p n lacks_it) ∙ ap (λ k. those_below k p)
      (let e : suc n ≡ m = omega arith in e))

pub none_yet : (line : ℕ → List ℕ) (p : ℕ → Bool) (head : List ℕ)
    → head ≡ head ++ flat_map line (those_below 0 p)
unfolding those_below
none_yet line p head = sym (append-nil head)

-- a result that says whether a number is a member is the set's test
pub is_the_test : (words : List ℕ) (s : ℕ) (b : Bool) → IsTrue b ↔ (member words s ≡ 1)
    → b ≡ has words s
is_the_test words s b h = same_from_decides b (has words s) h (Decides-eqb (member words s) 1)
