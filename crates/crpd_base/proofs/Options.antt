-- Options: their values, and when two are equal.
use Rattle.std.proofs.Common.{◌≡◌, ◌≢◌, ◌⊎◌, ℕ, Option, Some, None, option_map, refl, ap, inl, inr}
use Rattle.std.proofs.Common.{⊎_elim}
use Rattle.std.proofs.lemmas.Bool.{cases_eq}

-- equal options hold equal values
pub some_injective : {A : Type 0} {a b : A} → Some a ≡ Some b → a ≡ b
some_injective h = cc

-- None is no value
pub none_some : {A : Type 0} {a : A} → None ≡ Some a → ⊥
none_some h = cc

-- an option is not both None and a value
pub not_none : {A : Type 0} (o : Option A) (x : A) → o ≡ None → o ≡ Some x → ⊥
not_none o x n e = cc

-- an option is None or a value
pub none_or_some : {X : Type 0} (o : Option X) → (o ≡ None) ⊎ ((x : X) × (o ≡ Some x))
none_or_some None = inl refl
none_or_some (Some x) = inr (x, refl)

-- two options of numbers are equal or not
pub same_or_not : (x y : Option ℕ) → (x ≡ y) ⊎ (x ≢ y)
same_or_not None None = inl refl
same_or_not None (Some k) = inr (λ e. cc)
same_or_not (Some j) None = inr (λ e. cc)
same_or_not (Some j) (Some k) = ⊎_elim
    (λ (e : j ≡ k). inl (ap Some e))
    (λ (ne : j ≢ k). inr (λ e. ne cc))
    (cases_eq j k)

-- a value of a mapped option is the image of the option's value
pub mapped_some : {A B : Type 0} (o : Option A) (f : A → B) (y : B) → option_map f o ≡ Some y
    → (x : A) × (o ≡ Some x) × (f x ≡ y)
mapped_some None f y e = absurd cc
mapped_some (Some x) f y e = (x, refl, some_injective e)
