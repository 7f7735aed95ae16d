-- Which numbers a function has for the elements of a list, in any order.
use Rattle.std.proofs.Common.{◌≡◌, ℕ, ◌<◌, eqb, eqb-true, eq-eqb, Bool, true, false, List, [], ◌∷◌}
use Rattle.std.proofs.Common.{length, get_or, Option, Some, None, refl, ap, sym, ◌∙◌, ⊎_elim, arith}
use Rattle.std.proofs.Common.{suc, not}
use Rattle.std.specs.List.{list_any}
use Rattle.std.proofs.lemmas.Bool.{cases_Bool, ne_eqb}
use Rattle.std.proofs.lemmas.Option.{none-some}
use Rattle.std.proofs.lemmas.List.Folds.{list_any_at}
use Rattle.std.specs.Cmp.{both_ways}
use Rattle.crpd_base.proofs.Options.{none_or_some}
use Rattle.code_map.specs.Conflicts.{differ, disagree}
use Rattle.code_map.specs.Words.{find_map}
use Rattle.code_map.proofs.First.{found_at, found_some}

-- a number is this one
abbrev pub equals : ℕ → Option ℕ → Bool
equals u None = false
equals u (Some x) = eqb u x

-- f has this number for some element
abbrev pub has : {X : Type 0} → (X → Option ℕ) → List X → ℕ → Bool
has f xs u = list_any (λ x. equals u (f x)) xs

pub equals_true : (u : ℕ) (o : Option ℕ) → equals u o ≡ true → o ≡ Some u
equals_true u None e = absurd cc
equals_true u (Some x) e = ap Some (sym (eqb-true u x e))

pub equals_itself : (u : ℕ) → equals u (Some u) ≡ true
equals_itself u = eq-eqb u u refl

pub equals_some : (u : ℕ) (o : Option ℕ) → o ≡ Some u → equals u o ≡ true
equals_some u o e = rw e (equals_itself u)

-- ---- tests over lists

pub any_at : {X : Type 0} (p : X → Bool) (xs : List X) → list_any p xs ≡ true
    → (k : ℕ) × (k < length xs) × ((d : X) → p (get_or xs k d) ≡ true)
any_at p [] e = absurd cc
any_at p (x ∷ xs) e = ⊎_elim
    (λ (here : p x ≡ true). (0, omega arith, λ d. here))
    (λ (none : p x ≡ false). let r = any_at p xs (rw none at e) in (suc r.0, omega arith, r.2))
    (cases_Bool (p x))

-- ---- what is found

pub has_found : {X : Type 0} (f : X → Option ℕ) (xs : List X) (u : ℕ) → find_map f xs ≡ Some u
    → has f xs u ≡ true
has_found f [] u e = absurd (none-some u e)
has_found f (x ∷ xs) u e =
    let r = found_some f (x ∷ xs) u e in
    list_any_at (λ x. equals u (f x)) (x ∷ xs) r.0 x r.1
    (equals_some u (f (get_or (x ∷ xs) r.0 x)) (r.2 x))

pub found_has : {X : Type 0} (f : X → Option ℕ) (xs : List X) (u : ℕ) → has f xs u ≡ true
    → (w : ℕ) × (find_map f xs ≡ Some w)
found_has f [] u e = absurd cc
found_has f (x ∷ xs) u e =
    let r = any_at (λ x. equals u (f x)) (x ∷ xs) e in
    found_at f (x ∷ xs) r.0 x u r.1 (equals_true u (f (get_or (x ∷ xs) r.0 x)) (r.2 x))

differ_some : (o p : Option ℕ) → differ o p ≡ true
    → (u : ℕ) × (v : ℕ) × (o ≡ Some u) × (p ≡ Some v) × (u ≡ v → ⊥)
differ_some None p e = absurd cc
differ_some (Some x) None e = absurd cc
differ_some (Some x) (Some y) e =
    (x, y, refl, refl, λ same. absurd (false_is_true (sym (ap not (eq-eqb x y same)) ∙ e)))
  where
    false_is_true : false ≡ true → ⊥
    false_is_true e = cc

differs : (x y : ℕ) → (x ≡ y → ⊥) → differ (Some x) (Some y) ≡ true
differs x y ne = rw (ne_eqb x y ne) refl

differs_in : (o p : Option ℕ) (x y : ℕ) → o ≡ Some x → p ≡ Some y → (x ≡ y → ⊥) → differ o p ≡ true
differs_in o p x y a b ne = rw (a, b) (differs x y ne)

-- a function that disagrees has two different numbers
pub two : {X : Type 0} (f : X → Option ℕ) (xs : List X) → disagree f xs ≡ true
    → (u : ℕ) × (v : ℕ) × (has f xs u ≡ true) × (has f xs v ≡ true) × (u ≡ v → ⊥)
two f [] e = absurd cc
two f (x ∷ xs) e =
    let r = any_at (λ z. differ (find_map f (x ∷ xs)) (f z)) (x ∷ xs) e in
    let d = differ_some (find_map f (x ∷ xs)) (f (get_or (x ∷ xs) r.0 x)) (r.2 x) in (
      d.0,
      d.1,
      has_found f (x ∷ xs) d.0 d.2,
      list_any_at (λ z. equals d.1 (f z)) (x ∷ xs) r.0 x r.1
          (equals_some d.1 (f (get_or (x ∷ xs) r.0 x)) d.3),
      d.4,
    )

has_other : {X : Type 0} (f : X → Option ℕ) (xs : List X) (w v : ℕ) → find_map f xs ≡ Some w
    → has f xs v ≡ true → (w ≡ v → ⊥) → disagree f xs ≡ true
has_other f [] w v found h ne = absurd cc
has_other f (x ∷ xs) w v found h ne =
    let r = any_at (λ z. equals v (f z)) (x ∷ xs) h in
    list_any_at (λ z. differ (find_map f (x ∷ xs)) (f z)) (x ∷ xs) r.0 x r.1
    (differs_in (find_map f (x ∷ xs)) (f (get_or (x ∷ xs) r.0 x)) w v found
    (equals_true v (f (get_or (x ∷ xs) r.0 x)) (r.2 x)) ne)

-- a function with two different numbers disagrees
pub of_two : {X : Type 0} (f : X → Option ℕ) (xs : List X) (u v : ℕ) → has f xs u ≡ true
    → has f xs v ≡ true → (u ≡ v → ⊥) → disagree f xs ≡ true
of_two f xs u v one other ne =
    let w = found_has f xs u one in
    ⊎_elim
    (λ (same : eqb w.0 u ≡ true).
    has_other f xs w.0 v w.1 other (λ e. ne (sym (eqb-true w.0 u same) ∙ e)))
    (λ (not_same : eqb w.0 u ≡ false).
    has_other f xs w.0 u w.1 one (λ e. absurd (false_is_true (sym not_same ∙ eq-eqb w.0 u e))))
    (cases_Bool (eqb w.0 u))
  where
    false_is_true : false ≡ true → ⊥
    false_is_true e = cc

module _ {X Y : Type 0} (f : X → Option ℕ) (xs : List X) (g : Y → Option ℕ) (ys : List Y)
    (same : (u : ℕ) → has f xs u ≡ has g ys u) where
  -- two functions with the same numbers both disagree or both do not
  pub same_disagree : disagree f xs ≡ disagree g ys
  same_disagree = both_ways (disagree f xs) (disagree g ys)
      (λ e. let t = two f xs e in
      of_two g ys t.0 t.1 (sym (same t.0) ∙ t.2) (sym (same t.1) ∙ t.3) t.4)
      (λ e. let t = two g ys e in of_two f xs t.0 t.1 (same t.0 ∙ t.2) (same t.1 ∙ t.3) t.4)

  -- if they do not disagree, both find the same
  pub same_found : disagree g ys ≡ false → find_map f xs ≡ find_map g ys
  same_found agree = ⊎_elim
      (λ (none : find_map f xs ≡ None). none ∙ ⊎_elim
      (λ (too : find_map g ys ≡ None). sym too)
      (λ (some : (w : ℕ) × (find_map g ys ≡ Some w)). let back =
      found_has f xs some.0 (same some.0 ∙ has_found g ys some.0 some.1) in
      absurd (none-some back.0 (sym none ∙ back.1)))
      (none_or_some (find_map g ys)))
      (λ (some : (w : ℕ) × (find_map f xs ≡ Some w)).
      let there : has g ys some.0 ≡ true = sym (same some.0) ∙ has_found f xs some.0 some.1 in
      let found = found_has g ys some.0 there in
      some.1 ∙ ⊎_elim
      (λ (e : eqb found.0 some.0 ≡ true). ap Some (sym (eqb-true found.0 some.0 e)) ∙ sym found.1)
      (λ (e : eqb found.0 some.0 ≡ false).
      absurd (false_is_true (sym agree
      ∙ has_other g ys found.0 some.0 found.1 there
      (λ s. false_is_true (sym e ∙ eq-eqb found.0 some.0 s)))))
      (cases_Bool (eqb found.0 some.0)))
      (none_or_some (find_map f xs))
    where
      false_is_true : false ≡ true → ⊥
      false_is_true e = cc
