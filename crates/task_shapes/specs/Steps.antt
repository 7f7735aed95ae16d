-- Steps that end with a value or an error, of which more than one may be allowed.
use Rattle.std.specs.Prelude.{◌≡◌, ◌≢◌, ◌⊎◌, ℕ, ◌<◌, List, length, slice_get, Some}
use Rattle.std.specs.Prelude.{Result, Ok, Err}

-- exactly this end
abbrev pub Exactly : {A E : Type 0} → Result A E → Result A E → Type 0
Exactly meant r = meant ≡ r

-- two steps in sequence: the first error ends them
abbrev pub Then : {A B E : Type 0} → (Result A E → Type 0) → (A → Result B E → Type 0)
    → Result B E → Type 0
Then {A} {B} {E} P next r =
    ((value : A) × P (Ok value) × next value r) ⊎ ((error : E) × P (Err error) × (r ≡ Err error))

-- a step for each number below n, in order: a value for each, or the error of one whose
-- predecessors all have a value
abbrev pub EachBelow : {B E : Type 0} → (ℕ → Result B E → Type 0) → ℕ → Result (List B) E → Type 0
EachBelow {B} P n (Ok ys) =
    (length ys ≡ n) × ((k : ℕ) (y : B) → slice_get ys k ≡ Some y → P k (Ok y))
EachBelow {B} P n (Err error) =
    (k : ℕ) × (k < n) × P k (Err error) × ((j : ℕ) → j < k → (y : B) × P j (Ok y))

-- the code's result is an allowed one, or out of memory
abbrev pub GivesBy : {A E : Type 0} → E → (Result A E → Type 0) → Result A E → Type 0
GivesBy memory P (Ok value) = P (Ok value)
GivesBy memory P (Err error) = error ≢ memory → P (Err error)
