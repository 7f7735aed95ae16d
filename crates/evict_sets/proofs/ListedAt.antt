-- What an entry states about its node.
use Rattle.std.proofs.Common.{◌≡◌, ◌≢◌, ℕ, suc, ◌<◌, true, false, List, [], ◌∷◌, All, Some, None}
use Rattle.std.proofs.Common.{IsTrue, IsFalse, refl, sym, ap, ◌∙◌, subst, ⊎_elim, arith, ne_eqb}
use Rattle.std.proofs.Common.{eq-eqb, is_some, ◌==◌}
use Rattle.std.proofs.lemmas.Bool.{cases_eq}
use Rattle.std.proofs.lemmas.Option.{same_Some, none-some}
use Rattle.crpd_base.specs.Sets.{has}
use Rattle.crpd_base.specs.declared.data.NodeState.{NodeState}
use Rattle.crpd_base.specs.declared.data.TaskPart.{TaskPart}
use Rattle.evict_sets.specs.ListedPart.{state_entry_of, block_of_set, block_by_entry}
use Rattle.evict_sets.specs.ListedPart.{is_useful_by_entry, listed_of}

pub entry_listed : (t : TaskPart) (y : ℕ) (s : NodeState) → state_entry_of t.states y ≡ Some s
    → IsTrue ((listed_of t).is_listed y)
entry_listed t y s e = ap is_some e

pub entry_none : (t : TaskPart) (y : ℕ) → state_entry_of t.states y ≡ None
    → IsFalse ((listed_of t).is_listed y)
entry_none t y e = ap is_some e

pub entry_state : (t : TaskPart) (y : ℕ) (s : NodeState) (c : ℕ)
    → state_entry_of t.states y ≡ Some s → (listed_of t).state y c ≡ block_of_set s.sure c
entry_state t y s c e = ap (λ o. block_by_entry o c) e

pub entry_useful : (t : TaskPart) (y : ℕ) (s : NodeState) (c : ℕ)
    → state_entry_of t.states y ≡ Some s → (listed_of t).useful y c ≡ has s.useful c
entry_useful t y s c e = ap (λ o. is_useful_by_entry o c) e

-- a property of all states holds for a node's entry
pub entry_in : (P : NodeState → Type 0) (states : List NodeState) (y : ℕ) (s : NodeState)
    → All P states → state_entry_of states y ≡ Some s → P s
entry_in P [] y s all e = absurd (none-some s e)
entry_in P (x ∷ states) y s all e =
    ⊎_elim
    (λ (same : x.node ≡ y).
    let t : (x.node == y) ≡ true = eq-eqb x.node y same in
    let here : state_entry_of (x ∷ states) y ≡ Some x = rw t refl in
    subst P (same_Some x s (sym here ∙ e)) (all 0 x (omega arith)))
    (λ (ne : x.node ≢ y).
    let f : (x.node == y) ≡ false = ne_eqb x.node y ne in
    let there : state_entry_of (x ∷ states) y ≡ state_entry_of states y = rw f refl in
    entry_in P states y s (λ k d lt. all (suc k) d (omega arith)) (sym there ∙ e))
    (cases_eq x.node y)

pub nodes_as : (xs ys : List NodeState) (n m : ℕ) → xs ≡ ys → n ≡ m
    → All (λ (s : NodeState). s.node < n) xs → All (λ (s : NodeState). s.node < m) ys
nodes_as xs ys n m e f all =
    subst (λ (zs : List NodeState). All (λ (s : NodeState). s.node < m) zs) e
    (subst (λ k. All (λ (s : NodeState). s.node < k) xs) f all)
