-- The block of one cache set, and its mark.
use Rattle.std.proofs.Common.{◌≡◌, ◌≢◌, ℕ, zero, suc, ◌<◌, ◌==◌, Bool, false, not, nat_eq, IsTrue}
use Rattle.std.proofs.Common.{◌↔◌, List, ◌∷◌, [], ◌++◌, length, map, set, Option, Some, None, refl}
use Rattle.std.proofs.Common.{sym, ap, ◌∙◌, subst, ⊎_elim, append_assoc, eq-eqb, ne_eqb}
use Rattle.std.proofs.Common.{get_or-set_other, get_or-set_same, replicate, true, if◌then◌else◌}
use Rattle.std.specs.Option.{option_eq}
use Rattle.std.proofs.lemmas.Bool.{cases_eq, false≢true}
use Rattle.std.proofs.lemmas.List.{map_push}
use Rattle.crpd_base.specs.declared.data.NodeId.{NodeId}
use Rattle.icache.specs.Cache.{Cache, held}
use Rattle.dataflow.specs.Variable.{common_value}
use Rattle.must_cache.specs.Inner.EdgeLists.{edges_from}
use Rattle.must_cache.proofs.Joins.{equal_blocks}

pub held_none : (n s : ℕ) → held (replicate n None) s ≡ None
held_none zero s = refl
held_none (suc n) zero = refl
held_none (suc n) (suc s) = held_none n s

pub held_set : (xs : Cache) (i s b : ℕ) → i < length xs
    → held (set xs i (Some b)) s ≡ (if i == s then Some b else held xs s)
held_set xs i s b lt = ⊎_elim
    (λ (e : i ≡ s). rw (← e, eq-eqb i i refl) (get_or-set_same xs i (Some b) None lt))
    (λ (ne : i ≢ s). rw (ne_eqb i s ne) (get_or-set_other xs i s (Some b) None (λ e. ne (sym e))))
    (cases_eq i s)

pub is_some_block : (o : Option ℕ) (b : ℕ) (r : Bool) → r ≡ option_eq nat_eq o (Some b)
    → (IsTrue r ↔ (o ≡ Some b))
is_some_block None b r e = (λ t. absurd (false≢true (sym e ∙ t)), λ h. absurd cc)
is_some_block (Some a) b r e = ⊎_elim
    (λ (same : a ≡ b). (λ t. ap Some same, λ h. e ∙ eq-eqb a b same))
    (λ (ne : a ≢ b). (
      λ t. absurd (false≢true (sym (ne_eqb a b ne) ∙ (sym e ∙ t))),
      λ h. absurd (ne (let k : Some a ≡ Some b = h in cc)),
    ))
    (cases_eq a b)

pub common_none : (x y : Option ℕ) → not (option_eq nat_eq x y) ≡ true → None ≡ common_value x y
common_none None y e = refl
common_none (Some a) None e = refl
common_none (Some a) (Some b) e = ⊎_elim
    (λ (same : a ≡ b). let f : false ≡ true = rw (eq-eqb a b same) at e in absurd (false≢true f))
    (λ (ne : a ≢ b). rw (ne_eqb a b ne) refl)
    (cases_eq a b)

pub common_same : (x y : Option ℕ) → not (option_eq nat_eq x y) ≡ false → x ≡ common_value x y
common_same x y e = subst (λ z. x ≡ common_value x z) (equal_blocks x y e) (itself x)
  where
    itself : (x : Option ℕ) → x ≡ common_value x x
    itself None = refl
    itself (Some a) = rw (eq-eqb a a refl) refl

-- one more edge from a node
pub pushed_edge : (u : ℕ) (before old new : List (ℕ × ℕ)) (ns : List NodeId) (n : NodeId)
    → old ≡ before ++ edges_from u (map (λ (n : NodeId). n.0) ns) → new ≡ old ++ (u, n.0) ∷ []
    → new ≡ before ++ edges_from u (map (λ (n : NodeId). n.0) (ns ++ n ∷ []))
pushed_edge u before old new ns n is push =
    let vs : List ℕ = map (λ (n : NodeId). n.0) ns in
    push ∙ (ap (λ xs. xs ++ (u, n.0) ∷ []) is
    ∙ (append_assoc before (edges_from u vs) ((u, n.0) ∷ [])
    ∙ ap (λ xs. before ++ xs) (sym (ap (edges_from u) (map_push (λ (n : NodeId). n.0) ns n)
    ∙ map_push (λ v. (u, v)) vs n.0))))
