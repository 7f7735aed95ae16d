-- Which numbers are in a list.
use Rattle.std.proofs.Common.{◌≡◌, ◌⊎◌, ℕ, ◌+◌, ◌<◌, Bool, true, false, List, [], ◌∷◌, ◌++◌, length}
use Rattle.std.proofs.Common.{take, get_or, IsTrue, refl, sym, ◌∙◌, subst, inl, inr, ⊎_elim, eq-eqb}
use Rattle.std.proofs.Common.{if◌then◌else◌, ◌==◌, ◌||◌, ap, cond}
use Rattle.std.proofs.Math.Bool.{or_comm}
use Rattle.std.specs.List.{list_any, filter}
use Rattle.std.proofs.lemmas.Bool.{cases_Bool, false≢true, eqb-true, or_cases, or_left, or_right}
use Rattle.std.proofs.lemmas.List.Folds.{list_any-append, list_any_at, list_any_more}
use Rattle.crpd_base.proofs.Bools.{or_false}
use Rattle.loop_regions.specs.CodeNest.{has}

-- a test that holds for an element
pub any_has : (p : ℕ → Bool) (xs : List ℕ) (r : ℕ) → IsTrue (has xs r) → IsTrue (p r)
    → IsTrue (list_any p xs)
any_has p [] r h t = absurd (false≢true h)
any_has p (x ∷ xs) r h t =
    ⊎_elim
    (λ e. or_left (p x) (list_any p xs) (subst (λ y. IsTrue (p y)) (sym (eqb-true x r e)) t))
    (λ rest. or_right (p x) (list_any p xs) (any_has p xs r rest t))
    (or_cases (x == r) (has xs r) h)

pub has_any : (p : ℕ → Bool) (xs : List ℕ) → IsTrue (list_any p xs)
    → (r : ℕ) × IsTrue (has xs r) × IsTrue (p r)
has_any p [] h = absurd (false≢true h)
has_any p (x ∷ xs) h =
    ⊎_elim
    (λ here. (x, or_left (x == x) (has xs x) (eq-eqb x x refl), here))
    (λ rest. let r = has_any p xs rest in (r.0, or_right (x == r.0) (has xs r.0) r.1, r.2))
    (or_cases (p x) (list_any p xs) h)

pub has_more : (xs ys : List ℕ) (q : ℕ) → IsTrue (has xs q) → IsTrue (has (xs ++ ys) q)
has_more xs ys q h = list_any-append (λ s. s == q) xs ys ∙ or_left (has xs q) (has ys q) h

pub has_pushed : (xs : List ℕ) (q : ℕ) → IsTrue (has (xs ++ q ∷ []) q)
has_pushed xs q =
    list_any-append (λ s. s == q) xs (q ∷ [])
    ∙ or_right (has xs q) (has (q ∷ []) q) (or_left (q == q) false (eq-eqb q q refl))

pub has_push_cases : (xs : List ℕ) (r q : ℕ) → IsTrue (has (xs ++ r ∷ []) q)
    → IsTrue (has xs q) ⊎ (r ≡ q)
has_push_cases xs r q h =
    ⊎_elim
    (λ t. inl t)
    (λ t. ⊎_elim (λ e. inr (eqb-true r q e)) (λ f. absurd (false≢true f))
    (or_cases (r == q) false t))
    (or_cases (has xs q) (has (r ∷ []) q) (sym (list_any-append (λ s. s == q) xs (r ∷ [])) ∙ h))

-- the last number moved to the front
pub has_turned : (xs : List ℕ) (r q : ℕ) → has (xs ++ r ∷ []) q ≡ has (r ∷ xs) q
has_turned xs r q =
    list_any-append (λ s. s == q) xs (r ∷ []) ∙ ap (λ b. has xs q || b) (or_false (r == q))
    ∙ or_comm (has xs q) (r == q)

-- a number that is appended if a test holds
pub has_placed : (xs : List ℕ) (r q : ℕ) (b : Bool)
    → IsTrue (has (xs ++ (if b then r ∷ [] else [])) q) → IsTrue (has xs q) ⊎ (IsTrue b × (r ≡ q))
has_placed xs r q true h = ⊎_elim (λ t. inl t) (λ e. inr (refl, e)) (has_push_cases xs r q h)
has_placed xs r q false h =
    ⊎_elim
    (λ t. inl t)
    (λ t. absurd (false≢true t))
    (or_cases (has xs q) false (sym (list_any-append (λ s. s == q) xs []) ∙ h))

pub placed_has : (xs : List ℕ) (r : ℕ) (b : Bool) → IsTrue b
    → IsTrue (has (xs ++ (if b then r ∷ [] else [])) r)
placed_has xs r true h = has_pushed xs r
placed_has xs r false h = absurd (false≢true h)

pub has_filter : (p : ℕ → Bool) (xs : List ℕ) (q : ℕ) → IsTrue (has (filter p xs) q)
    → IsTrue (has xs q) × IsTrue (p q)
has_filter p [] q h = absurd (false≢true h)
has_filter p (x ∷ xs) q h =
    ⊎_elim
    (λ keeps.
    let k : IsTrue (has (x ∷ filter p xs) q) =
    subst (λ b. IsTrue (has (cond b (x ∷ filter p xs) (filter p xs)) q)) keeps h in
    ⊎_elim
    (λ e. (or_left (x == q) (has xs q) e, subst (λ y. IsTrue (p y)) (eqb-true x q e) keeps))
    (λ rest. let r = has_filter p xs q rest in (or_right (x == q) (has xs q) r.0, r.1))
    (or_cases (x == q) (has (filter p xs) q) k))
    (λ drops.
    let k : IsTrue (has (filter p xs) q) =
    subst (λ b. IsTrue (has (cond b (x ∷ filter p xs) (filter p xs)) q)) drops h in
    let r = has_filter p xs q k in (or_right (x == q) (has xs q) r.0, r.1))
    (cases_Bool (p x))

pub filter_has : (p : ℕ → Bool) (xs : List ℕ) (q : ℕ) → IsTrue (has xs q) → IsTrue (p q)
    → IsTrue (has (filter p xs) q)
filter_has p [] q h t = absurd (false≢true h)
filter_has p (x ∷ xs) q h t =
    ⊎_elim
    (λ keeps. subst (λ b. IsTrue (has (cond b (x ∷ filter p xs) (filter p xs)) q)) (sym keeps)
    (⊎_elim (λ e. or_left (x == q) (has (filter p xs) q) e)
    (λ rest. or_right (x == q) (has (filter p xs) q) (filter_has p xs q rest t))
    (or_cases (x == q) (has xs q) h)))
    (λ drops. subst (λ b. IsTrue (has (cond b (x ∷ filter p xs) (filter p xs)) q)) (sym drops)
    (⊎_elim
    (λ e. absurd (false≢true (sym drops ∙ subst (λ y. IsTrue (p y)) (sym (eqb-true x q e)) t)))
    (λ rest. filter_has p xs q rest t)
    (or_cases (x == q) (has xs q) h)))
    (cases_Bool (p x))

-- the elements of a list
pub has_at : (xs : List ℕ) (i : ℕ) → i < length xs → IsTrue (has xs (get_or xs i 0))
has_at xs i lt = let x = get_or xs i 0 in list_any_at (λ s. s == x) xs i 0 lt (eq-eqb x x refl)

pub has_taken : (xs : List ℕ) (i q : ℕ) → i < length xs → IsTrue (has (take (i + 1) xs) q)
    → IsTrue (has (take i xs) q) ⊎ (get_or xs i 0 ≡ q)
has_taken xs i q lt h =
    ⊎_elim (λ t. inl t) (λ e. inr (eqb-true (get_or xs i 0) q e))
    (or_cases (has (take i xs) q) (get_or xs i 0 == q)
    (sym (list_any_more (λ s. s == q) xs i 0 lt) ∙ h))

pub taken_has : (xs : List ℕ) (i q : ℕ) → i < length xs
    → IsTrue (has (take i xs) q) ⊎ (get_or xs i 0 ≡ q) → IsTrue (has (take (i + 1) xs) q)
taken_has xs i q lt h =
    list_any_more (λ s. s == q) xs i 0 lt
    ∙ ⊎_elim (λ t. or_left (has (take i xs) q) (get_or xs i 0 == q) t)
    (λ e. or_right (has (take i xs) q) (get_or xs i 0 == q) (eq-eqb (get_or xs i 0) q e)) h
