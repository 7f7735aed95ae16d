-- A flat list of pairs, read two values at a time.
use Rattle.std.proofs.Common.{◌≡◌, ◌≢◌, ℕ, ◌+◌, ◌*◌, ◌<◌, List, [], ◌∷◌, ◌++◌, length, get_or, drop}
use Rattle.std.proofs.Common.{Option, Some, None, option_map, refl, ap, sym, ◌∙◌, arith}
use Rattle.std.proofs.Common.{length-drop, option_and_then}
use Rattle.std.proofs.Math.ListN.{drop_of_length-le}
use Rattle.std.proofs.lemmas.List.{append-nil}
use Rattle.serde_json.specs.Data.{Data, Items, item}
use Rattle.serde_json.specs.View.{view, items_view}
use Rattle.serde_json.specs.declared.value.Value.{Value}
use Rattle.cert_model.specs.Kinds.{pair, pairs_from, three_items}
use Rattle.cert_model.proofs.Rising.{front_moved, items_from, same_option}

-- the two values at a place, and those after them
two_at : (vs : List Value) (i : ℕ) (a b : Value) → 2 * i + 1 < length vs → a ≡ get_or vs (2 * i) a
    → b ≡ get_or vs (2 * i + 1) b
    → items_view (drop (2 * i) vs)
    ≡ item (view a) (item (view b) (items_view (drop (2 * (i + 1)) vs)))
two_at vs i a b n p q =
    let e : 2 * i + 1 + 1 ≡ 2 * (i + 1) = omega arith in
    items_from vs (2 * i) a (omega arith) p
    ∙ ap (item (view a)) (items_from vs (2 * i + 1) b n q
    ∙ ap (λ k. item (view b) (items_view (drop k vs))) e)

abbrev with_pair : List (ℕ × ℕ) → ℕ → Items → Option (ℕ × ℕ) → Option (List (ℕ × ℕ))
with_pair front limit ds o =
    option_map (λ more. front ++ more)
    (option_and_then (λ p. option_map (λ more. p ∷ more) (pairs_from (p.0 + 1) limit ds)) o)

pub pairs_start : (front : List (ℕ × ℕ)) (limit : ℕ) (vs : List Value) → front ≡ []
    → option_map (λ more. front ++ more) (pairs_from 0 limit (items_view (drop (2 * 0) vs)))
    ≡ pairs_from 0 limit (items_view vs)
pairs_start front limit vs e = rw e (same_option (pairs_from 0 limit (items_view vs)))

pub pairs_more : (front new : List (ℕ × ℕ)) (low limit : ℕ) (vs : List Value) (i set : ℕ)
    (a b : Value) (p : ℕ × ℕ) (all : Option (List (ℕ × ℕ))) → 2 * i + 1 < length vs
    → a ≡ get_or vs (2 * i) a → b ≡ get_or vs (2 * i + 1) b
    → Some p ≡ pair low limit (view a) (view b) → new ≡ front ++ p ∷ [] → set ≡ p.0
    → option_map (λ more. front ++ more) (pairs_from low limit (items_view (drop (2 * i) vs))) ≡ all
    → option_map (λ more. new ++ more)
    (pairs_from (set + 1) limit (items_view (drop (2 * (i + 1)) vs))) ≡ all
pairs_more front new low limit vs i set a b p all n first second is pushed same read =
    rw (pushed, same)
    (sym (front_moved front p (pairs_from (p.0 + 1) limit (items_view (drop (2 * (i + 1)) vs))))
    ∙ ap (with_pair front limit (items_view (drop (2 * (i + 1)) vs))) is
    ∙ sym (ap (λ ds. option_map (λ more. front ++ more) (pairs_from low limit ds))
    (two_at vs i a b n first second)) ∙ read)

pub pairs_fault : (front : List (ℕ × ℕ)) (low limit : ℕ) (vs : List Value) (i : ℕ) (a b : Value)
    (all : Option (List (ℕ × ℕ))) → 2 * i + 1 < length vs → a ≡ get_or vs (2 * i) a
    → b ≡ get_or vs (2 * i + 1) b
    → None ≡ pair low limit (view a) (view b)
    → option_map (λ more. front ++ more) (pairs_from low limit (items_view (drop (2 * i) vs))) ≡ all
    → all ≡ None
pairs_fault front low limit vs i a b all n first second is read =
    sym (ap (with_pair front limit (items_view (drop (2 * (i + 1)) vs))) is
    ∙ sym (ap (λ ds. option_map (λ more. front ++ more) (pairs_from low limit ds))
    (two_at vs i a b n first second)) ∙ read)

few_left : (vs : List Value) → length vs ≡ 1 → (low limit : ℕ)
    → pairs_from low limit (items_view vs) ≡ None
few_left [] n low limit = absurd (omega arith)
few_left (v ∷ []) n low limit = refl
few_left (v ∷ w ∷ vs) n low limit = absurd (omega arith)

pub pairs_odd : (front : List (ℕ × ℕ)) (low limit : ℕ) (vs : List Value) (i : ℕ)
    (all : Option (List (ℕ × ℕ))) → length vs ≡ 2 * i + 1
    → option_map (λ more. front ++ more) (pairs_from low limit (items_view (drop (2 * i) vs))) ≡ all
    → all ≡ None
pairs_odd front low limit vs i all n read =
    let left : length (drop (2 * i) vs) ≡ 1 = omega (arith, length-drop (2 * i) vs) in
    sym (sym (ap (option_map (λ more. front ++ more)) (few_left (drop (2 * i) vs) left low limit))
    ∙ read)

pub pairs_all : (front : List (ℕ × ℕ)) (low limit : ℕ) (vs : List Value) (i : ℕ)
    (all : Option (List (ℕ × ℕ))) → length vs ≡ 2 * i
    → option_map (λ more. front ++ more) (pairs_from low limit (items_view (drop (2 * i) vs))) ≡ all
    → all ≡ Some front
pairs_all front low limit vs i all n read =
    sym read ∙ ap (λ l. option_map (λ more. front ++ more) (pairs_from low limit (items_view l)))
    (drop_of_length-le vs (omega arith)) ∙ ap (λ l. Some l) (append-nil front)

-- a list of three values, and any other list
pub three_of_three : {A : Type 0} (f : Data → Data → Data → Option A) (vs : List Value)
    (a b c : Value) → length vs ≡ 3 → a ≡ get_or vs 0 a → b ≡ get_or vs 1 b → c ≡ get_or vs 2 c
    → three_items f (items_view vs) ≡ f (view a) (view b) (view c)
three_of_three f [] a b c n p q r = absurd (omega arith)
three_of_three f (u ∷ []) a b c n p q r = absurd (omega arith)
three_of_three f (u ∷ v ∷ []) a b c n p q r = absurd (omega arith)
three_of_three f (u ∷ v ∷ w ∷ []) a b c n p q r = rw (p, q, r)
three_of_three f (u ∷ v ∷ w ∷ x ∷ more) a b c n p q r = absurd (omega arith)

pub three_of_others : {A : Type 0} (f : Data → Data → Data → Option A) (vs : List Value)
    → length vs ≢ 3 → three_items f (items_view vs) ≡ None
three_of_others f [] n = refl
three_of_others f (u ∷ []) n = refl
three_of_others f (u ∷ v ∷ []) n = refl
three_of_others f (u ∷ v ∷ w ∷ []) n = absurd (n refl)
three_of_others f (u ∷ v ∷ w ∷ x ∷ more) n = refl
