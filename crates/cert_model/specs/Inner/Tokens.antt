-- Inner definitions: what a function adds to the tokens of a writer.
use Rattle.std.specs.Prelude.{◌≡◌, ℕ, List, ◌∷◌, ◌++◌, OnOk, Result}
use Rattle.std.specs.List.{flat_map}
use Rattle.json.specs.Token.{Token, key}
use Rattle.json.specs.Tree.{json_tokens}
use Rattle.json.specs.Written.{Written}
use Rattle.serde_json.specs.Data.{Data}
use Rattle.serde_json.specs.Written.{outline}

-- the tokens of a value's text
abbrev pub tokens_of : Data → List Token
tokens_of d = json_tokens (outline d)

-- those of a list's items
abbrev pub tokens_by : {A : Type 0} → (A → Data) → List A → List Token
tokens_by f xs = flat_map (λ x. tokens_of (f x)) xs

-- the writer has these additional tokens, and the same bytes before them
pub record Adds (old new : Written) (ts : List Token) : Type 0 where
  pub tokens : new.tokens ≡ old.tokens ++ ts
  pub before : new.before ≡ old.before

-- the value's tokens are added, unless memory runs out
abbrev pub Appends : {E : Type 0} → Result (Unit {0}) E → Written → Written → Data → Type 0
Appends r old new d = OnOk r (Adds old new (tokens_of d))

-- the same with its key
abbrev pub AppendsAt : {E : Type 0} → Result (Unit {0}) E → Written → Written → List ℕ
    → Data → Type 0
AppendsAt r old new name d = OnOk r (Adds old new (key name ∷ tokens_of d))
