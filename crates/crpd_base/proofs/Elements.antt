-- Lists: their elements and the places of these, and one more element.
use Rattle.std.proofs.Common.{◌≡◌, ◌≢◌, ◌⊎◌, ℕ, zero, suc, ◌+◌, ◌<◌, List, [], ◌∷◌, ◌++◌, map}
use Rattle.std.proofs.Common.{length, get_or, slice_get, Option, Some, Contains, refl, sym, ap, ◌∙◌}
use Rattle.std.proofs.Common.{subst, inl, inr, ⊎_elim, arith, take, All, AllPairs}
use Rattle.std.specs.List.{range_with_len}
use Rattle.std.proofs.Math.Seq.{get_or-append_seam}
use Rattle.std.proofs.lemmas.Bool.{cases_eq}
use Rattle.std.proofs.lemmas.List.{get_or_append_left, length_push, take_more}
use Rattle.std.proofs.lemmas.List.FromFn.{map-range_with_len_more}
use Rattle.std.proofs.lemmas.Option.{same_Some, slice_get_within, slice_get-get_or}
use Rattle.std.proofs.lemmas.Option.{get_or_from_slice_get}

-- the first is in the list
pub at_head : {X : Type 0} (xs : List X) (x y : X) → y ≡ x → Contains (y ∷ xs) x
at_head xs x y e = (0, omega arith, e)

-- what is in the rest is in the list
pub at_rest : {X : Type 0} (xs : List X) (x y : X) → Contains xs x → Contains (y ∷ xs) x
at_rest xs x y (k, lt, e) = (suc k, omega arith, e)

-- what is in a list is the first or in the rest
pub head_or_rest : {X : Type 0} (xs : List X) (x y : X) → Contains (y ∷ xs) x
    → (y ≡ x) ⊎ Contains xs x
head_or_rest xs x y (zero, lt, e) = inl e
head_or_rest xs x y (suc k, lt, e) = inr (k, omega arith, e)

-- nothing is in an empty list
pub in_none : {X : Type 0} (x : X) → Contains [] x → ⊥
in_none x (k, lt, e) = absurd (omega arith)

-- the element of a list of one is that one
pub in_one : {X : Type 0} (x y : X) → Contains (y ∷ []) x → y ≡ x
in_one x y c = ⊎_elim (λ e. e) (λ c. absurd (in_none x c)) (head_or_rest [] x y c)

-- what is in a list has a place
pub contains_at : {X : Type 0} (xs : List X) (x : X) → Contains xs x
    → (k : ℕ) × (slice_get xs k ≡ Some x)
contains_at xs x (k, lt, e) = (k, slice_get-get_or xs k x lt ∙ ap Some e)

-- the element at a place is in the list
pub at_contains : {X : Type 0} (xs : List X) (k : ℕ) (x : X) → slice_get xs k ≡ Some x
    → Contains xs x
at_contains xs k x e = (k, slice_get_within xs k x e, get_or_from_slice_get xs k x x e)

-- the places of the first of two lists
pub slice_get_left : {X : Type 0} (xs ys : List X) (k : ℕ) → k < length xs
    → slice_get (xs ++ ys) k ≡ slice_get xs k
slice_get_left [] ys k lt = absurd (omega arith)
slice_get_left (x ∷ xs) ys zero lt = refl
slice_get_left (x ∷ xs) ys (suc k) lt = slice_get_left xs ys k (omega arith)

-- there is an element at each place
pub some_at : {X : Type 0} (xs : List X) (k : ℕ) → k < length xs
    → (x : X) × (slice_get xs k ≡ Some x)
some_at [] k lt = absurd (omega arith)
some_at (x ∷ xs) zero lt = (x, refl)
some_at (x ∷ xs) (suc k) lt = some_at xs k (omega arith)

-- one more at the end: the element at a place was there before, or is the new one
pub at_more : {X : Type 0} (xs : List X) (y : X) (k : ℕ) (x : X)
    → slice_get (xs ++ y ∷ []) k ≡ Some x → (slice_get xs k ≡ Some x) ⊎ ((k ≡ length xs) × (y ≡ x))
at_more [] y zero x e = inr (refl, same_Some y x e)
at_more [] y (suc k) x e = cc
at_more (z ∷ xs) y zero x e = inl e
at_more (z ∷ xs) y (suc k) x e =
    ⊎_elim (λ o. inl o) (λ n. inr (omega (arith, n.0), n.1)) (at_more xs y k x e)

-- one more at the end is at the last place
pub at_end : {X : Type 0} (xs : List X) (y : X) → slice_get (xs ++ y ∷ []) (length xs) ≡ Some y
at_end [] y = refl
at_end (x ∷ xs) y = at_end xs y

-- the element at a place is still there after one more
pub at_kept : {X : Type 0} (xs : List X) (x : X) (k : ℕ) (y : X) → slice_get xs k ≡ Some y
    → slice_get (xs ++ x ∷ []) k ≡ Some y
at_kept [] x k y e = absurd (let lt = slice_get_within [] k y e in omega arith)
at_kept (z ∷ xs) x zero y e = e
at_kept (z ∷ xs) x (suc k) y e = at_kept xs x k y e

-- what is in a list is, mapped, in the mapped list
pub contains_map : {X Y : Type 0} (f : X → Y) (xs : List X) (x : X) → Contains xs x
    → Contains (map f xs) (f x)
contains_map f [] x (k, lt, e) = absurd (omega arith)
contains_map f (y ∷ xs) x (zero, lt, e) = (0, omega arith, ap f e)
contains_map f (y ∷ xs) x (suc k, lt, e) =
    let r = contains_map f xs x (k, omega arith, e) in (suc r.0, omega (arith, r.1), r.2)

-- what is in a mapped list is the image of an element of the list
pub contains_mapped : {X Y : Type 0} (f : X → Y) (xs : List X) (y : Y) → Contains (map f xs) y
    → (x : X) × Contains xs x × (f x ≡ y)
contains_mapped f [] y (k, lt, e) = absurd (omega arith)
contains_mapped f (x ∷ xs) y (zero, lt, e) = (x, (0, omega arith, refl), e)
contains_mapped f (x ∷ xs) y (suc k, lt, e) =
    let r = contains_mapped f xs y (k, omega arith, e) in
    (r.0, (suc r.1.0, omega (arith, r.1.1), r.1.2), r.2)

-- what holds of each element at its place holds after one more
pub pushed_each : {X : Type 0} (P : ℕ → X → Type 0) (xs new : List X) (x d : X) (k : ℕ)
    → new ≡ xs ++ x ∷ [] → length xs ≡ k
    → ((y : ℕ) → y < k → P y (get_or xs y d)) → P k x → (y : ℕ) → y < k + 1 → P y (get_or new y d)
pushed_each P xs new x d k is count each here y lt =
    ⊎_elim
    (λ (e : y ≡ k).
    let last : get_or new y d ≡ x = ap (λ l. get_or l y d) is
    ∙ ap (λ j. get_or (xs ++ x ∷ []) j d) (e ∙ sym count) ∙ get_or-append_seam xs x [] d in
    subst (P y) (sym last) (subst (λ j. P j x) (sym e) here))
    (λ (ne : y ≢ k).
    let before : get_or new y d ≡ get_or xs y d =
    ap (λ l. get_or l y d) is ∙ get_or_append_left xs (x ∷ []) d y (omega arith) in
    subst (P y) (sym before) (each y (omega arith)))
    (cases_eq y k)

-- one more at the end: the list is one longer
pub count_more : {X : Type 0} (xs new : List X) (x : X) (k : ℕ) → new ≡ xs ++ x ∷ []
    → length xs ≡ k → length new ≡ k + 1
count_more xs new x k is count =
    ap length is ∙ length_push xs x ∙ ap (λ n. n + 1) count

-- lists of places with the same elements are equal, if each element has one place
pub same_places : {X : Type 0} (f g : ℕ → Option X)
    → ((i j : ℕ) (x : X) → f i ≡ Some x → g j ≡ Some x → i ≡ j) → (is js : List ℕ) (xs : List X)
    → map f is ≡ map Some xs → map g js ≡ map Some xs → is ≡ js
same_places f g one [] [] xs a b = refl
same_places f g one [] (j ∷ js) [] a b = absurd cc
same_places f g one [] (j ∷ js) (x ∷ xs) a b = absurd cc
same_places f g one (i ∷ is) [] [] a b = absurd cc
same_places f g one (i ∷ is) [] (x ∷ xs) a b = absurd cc
same_places f g one (i ∷ is) (j ∷ js) [] a b = absurd cc
same_places f g one (i ∷ is) (j ∷ js) (x ∷ xs) a b =
    let first : f i ≡ Some x = cc in
    let second : g j ≡ Some x = cc in
    let rest : map f is ≡ map Some xs = cc in
    let others : map g js ≡ map Some xs = cc in
    ap (λ n. n ∷ is) (one i j x first second)
    ∙ ap (λ l. j ∷ l) (same_places f g one is js xs rest others)

-- what holds of each pair holds of the first element with each later one
pub pairs_head : {X : Type 0} (R : X → X → Type 0) (x : X) (xs : List X) → AllPairs R (x ∷ xs)
    → All (R x) xs
pairs_head R x xs h k d lt = h 0 (suc k) d (omega arith) (omega arith)

-- what holds of each pair holds of each pair in the rest
pub pairs_tail : {X : Type 0} (R : X → X → Type 0) (x : X) (xs : List X) → AllPairs R (x ∷ xs)
    → AllPairs R xs
pairs_tail R x xs h i j d lt le = h (suc i) (suc j) d (omega arith) (omega arith)

-- a list that a loop builds, with one more item
pub map_range_more : {X : Type 0} (f : ℕ → X) (xs ys : List X) (i : ℕ) (x : X)
    → xs ≡ map f (range_with_len 0 i) → ys ≡ xs ++ x ∷ [] → x ≡ f i
    → ys ≡ map f (range_with_len 0 (i + 1))
map_range_more f xs ys i x e h is =
    h ∙ ap (λ zs. zs ++ x ∷ []) e ∙ ap (λ z. map f (range_with_len 0 i) ++ z ∷ []) is
    ∙ sym (map-range_with_len_more f 0 i i (omega arith))

-- a list that a loop copies, with one more element
pub copied_more : {X : Type 0} (xs copy more : List X) (i : ℕ) (x y : X) → i < length xs
    → copy ≡ take i xs → x ≡ get_or xs i x → y ≡ x → more ≡ copy ++ y ∷ []
    → more ≡ take (i + 1) xs
copied_more xs copy more i x y h before is same pushed =
    pushed ∙ ap (λ c. c ++ y ∷ []) before ∙ ap (λ z. take i xs ++ z ∷ []) (same ∙ is)
    ∙ sym (take_more xs i x h)
