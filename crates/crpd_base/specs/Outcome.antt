-- A value, or the first refusal.
use Rattle.std.specs.Prelude.{◌≡◌, ◌≢◌, ℕ, Bool, Option, Some, None, List, [], ◌∷◌, Result, Ok, Err}
use Rattle.std.specs.Prelude.{if◌then◌else◌}

-- steps in sequence, up to the first refusal
infixl 10 ◌>>=◌
abbrev pub ◌>>=◌ : {A B E : Type 0} → Result A E → (A → Result B E) → Result B E
(Ok x) >>= f = f x
(Err e) >>= f = Err e

-- a condition, with the refusal if it does not hold
abbrev pub ensure : {E : Type 0} → Bool → E → Result (Unit {0}) E
ensure holds e = if holds then Ok tt else Err e

-- a condition that no place may satisfy, with the refusal of the first place that does
abbrev pub nowhere : {E : Type 0} → (ℕ → E) → Option ℕ → Result (Unit {0}) E
nowhere refusal None = Ok tt
nowhere refusal (Some place) = Err (refusal place)

-- each item in order, up to the first refusal
unfoldable pub each : {A B E : Type 0} → (A → Result B E) → List A → Result (List B) E
each read [] = Ok []
each read (x ∷ xs) = do
  y ← read x
  ys ← each read xs
  Ok (y ∷ ys)

-- what a function returned, seen by view, is the result of reading, unless memory ran out
abbrev pub Gives : {X Y E : Type 0} → E → (X → Y) → Result X E → Result Y E → Type 0
Gives memory view (Ok x) read = read ≡ Ok (view x)
Gives memory view (Err e) read = e ≢ memory → read ≡ Err e
