-- The progress of a loop over the successors of a node.
use Rattle.std.proofs.Common.{◌≡◌, ℕ, ◌<◌, List, [], ◌∷◌, ◌++◌, length, All, map, get_or, sym, subst}
use Rattle.std.proofs.lemmas.List.{map-append}
use Rattle.std.proofs.lemmas.List.Elements.{All-get_or, All-push}
use Rattle.crpd_base.specs.declared.data.NodeId.{NodeId}

-- one more
pub one_more : (P : ℕ → Type 0) (seen : List NodeId) (next : NodeId)
    → All P (map (λ (n : NodeId). n.0) seen) → P next.0
    → All P (map (λ (n : NodeId). n.0) (seen ++ next ∷ []))
one_more P seen next all p =
    subst (All P) (sym (map-append (λ (n : NodeId). n.0) seen (next ∷ [])))
    (All-push P (map (λ (n : NodeId). n.0) seen) next.0 all p)

-- one for which it does not hold
pub not_each : (P : ℕ → Type 0) (xs : List ℕ) (i x : ℕ) → (i < length xs) × (x ≡ get_or xs i x)
    → (P x → ⊥) → All P xs → ⊥
not_each P xs i x at not_here all = not_here (subst P (sym at.1) (All-get_or P xs i x at.0 all))
