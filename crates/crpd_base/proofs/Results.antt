-- Results: steps that found no refusal, and what was read in front of what is still to be read.
use Rattle.std.proofs.Common.{◌≡◌, List, ◌∷◌, [], ◌++◌, Result, Ok, Err, refl, ap, sym}
use Rattle.std.proofs.Common.{append_assoc}
use Rattle.crpd_base.specs.Outcome.{◌>>=◌}

-- the value with which a step continued
pub bind_ok : {A B E : Type 0} (r : Result A E) (f : A → Result B E) (y : B) → (r >>= f) ≡ Ok y
    → (x : A) × (r ≡ Ok x) × (f x ≡ Ok y)
bind_ok (Ok x) f y e = (x, refl, e)
bind_ok (Err d) f y e = absurd cc

-- steps after a step, as one step
pub bind_assoc : {A B C E : Type 0} (r : Result A E) (f : A → Result B E) (g : B → Result C E)
    → ((r >>= f) >>= g) ≡ (r >>= (λ x. f x >>= g))
bind_assoc (Ok x) f g = refl
bind_assoc (Err e) f g = refl

-- a result has one value
pub ok_is : {A E : Type 0} (x y : A) → ◌≡◌ {A = Result A E} (Ok x) (Ok y) → x ≡ y
ok_is x y e = cc

-- a value is not a refusal
pub ok_not_err : {A E : Type 0} (x : A) (r : E) → ◌≡◌ {A = Result A E} (Ok x) (Err r) → ⊥
ok_not_err x r e = cc

-- what was read, in front of what is still to be read
abbrev pub with_front : {A E : Type 0} → List A → Result (List A) E → Result (List A) E
with_front front (Ok xs) = Ok (front ++ xs)
with_front front (Err e) = Err e

-- one more item was read
pub with_front_pair : {A E : Type 0} (front : List A) (x : A) (rest : Result (List A) E)
    → with_front front (rest >>= (λ xs. Ok (x ∷ xs))) ≡ with_front (front ++ x ∷ []) rest
with_front_pair front x (Ok xs) = ap (λ ys. Ok ys) (sym (append_assoc front (x ∷ []) xs))
with_front_pair front x (Err e) = refl
