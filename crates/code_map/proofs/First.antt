-- The first element of a list for which a function has a value.
use Rattle.std.proofs.Common.{◌≡◌, ℕ, ◌<◌, List, [], ◌∷◌, ◌++◌, ◌⊎◌, length, get_or, Option, Some}
use Rattle.std.proofs.Common.{None, refl, ap, sym, ◌∙◌, inl, inr, ⊎_elim, arith, suc, zero}
use Rattle.std.specs.Option.{option_or}
use Rattle.std.proofs.lemmas.Option.{none-some}
use Rattle.crpd_base.proofs.Options.{none_or_some}
use Rattle.code_map.specs.Words.{find_map}

or_some : {Y : Type 0} (o p : Option Y) (y : Y) → option_or o p ≡ Some y
    → (o ≡ Some y) ⊎ ((o ≡ None) × (p ≡ Some y))
or_some None p y e = inr (refl, e)
or_some (Some x) p y e = inl e

pub or_none : {Y : Type 0} (o p : Option Y) → option_or o p ≡ None → (o ≡ None) × (p ≡ None)
or_none None p e = (refl, e)
or_none (Some x) p e = absurd (none-some x (sym e))

pub or_nothing : {Y : Type 0} (o : Option Y) → option_or o None ≡ o
or_nothing None = refl
or_nothing (Some x) = refl

pub or_assoc : {Y : Type 0} (o p q : Option Y)
    → option_or (option_or o p) q ≡ option_or o (option_or p q)
or_assoc None p q = refl
or_assoc (Some x) p q = refl

-- it has no value for each element, so none for the list
pub found_none : {X Y : Type 0} (f : X → Option Y) (xs : List X)
    → ((k : ℕ) (d : X) → k < length xs → f (get_or xs k d) ≡ None) → find_map f xs ≡ None
found_none f [] h = refl
found_none f (x ∷ xs) h =
    rw (h 0 x (omega arith)) (found_none f xs (λ k d lt. h (suc k) d (omega arith)))

-- the element for which it has a value
pub found_some : {X Y : Type 0} (f : X → Option Y) (xs : List X) (y : Y) → find_map f xs ≡ Some y
    → (k : ℕ) × (k < length xs) × ((d : X) → f (get_or xs k d) ≡ Some y)
found_some f [] y e = absurd (none-some y e)
found_some f (x ∷ xs) y e = ⊎_elim
    (λ (here : f x ≡ Some y). (0, omega arith, λ d. here))
    (λ (later : (f x ≡ None) × (find_map f xs ≡ Some y)). let r = found_some f xs y later.1 in
    (suc r.0, omega arith, r.2))
    (or_some (f x) (find_map f xs) y e)

-- it has no value for the list, so none for any element
pub none_found : {X Y : Type 0} (f : X → Option Y) (xs : List X) → find_map f xs ≡ None
    → (k : ℕ) (d : X) → k < length xs → f (get_or xs k d) ≡ None
none_found f [] e k d lt = absurd (omega arith)
none_found f (x ∷ xs) e zero d lt = (or_none (f x) (find_map f xs) e).0
none_found f (x ∷ xs) e (suc k) d lt =
    none_found f xs (or_none (f x) (find_map f xs) e).1 k d (omega arith)

-- it has a value for one element, so one for the list
pub found_at : {X Y : Type 0} (f : X → Option Y) (xs : List X) (k : ℕ) (d : X) (y : Y)
    → k < length xs → f (get_or xs k d) ≡ Some y → (z : Y) × (find_map f xs ≡ Some z)
found_at f xs k d y lt e = ⊎_elim
    (λ (none : find_map f xs ≡ None). absurd (none-some y (sym (none_found f xs none k d lt) ∙ e)))
    (λ (some : (z : _) × (find_map f xs ≡ Some z)). some)
    (none_or_some (find_map f xs))

pub found_append : {X Y : Type 0} (f : X → Option Y) (xs ys : List X)
    → find_map f (xs ++ ys) ≡ option_or (find_map f xs) (find_map f ys)
found_append f [] ys = refl
found_append f (x ∷ xs) ys =
    ap (option_or (f x)) (found_append f xs ys)
    ∙ sym (or_assoc (f x) (find_map f xs) (find_map f ys))

-- the only element for which it has a value
pub found_only : {X Y : Type 0} (f : X → Option Y) (xs : List X) (k : ℕ) (d : X) → k < length xs
    → ((j : ℕ) (d : X) → j < length xs → (j ≡ k → ⊥) → f (get_or xs j d) ≡ None)
    → find_map f xs ≡ f (get_or xs k d)
found_only f [] k d lt none = absurd (omega arith)
found_only f (x ∷ xs) zero d lt none =
    rw (found_none f xs (λ j d lt. none (suc j) d (omega arith) (λ e. absurd (omega arith))))
    (or_nothing (f x))
found_only f (x ∷ xs) (suc k) d lt none =
    rw (none 0 x (omega arith) (λ e. absurd (omega arith)))
    (found_only f xs k d (omega arith)
    (λ j d lt ne. none (suc j) d (omega arith) (λ e. ne (omega arith))))
