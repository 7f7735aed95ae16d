-- A writer that continues, step by step.
use Rattle.std.proofs.Common.{◌≡◌, ℕ, ◌≤◌, List, [], ◌∷◌, ◌++◌, length, map, take, Result, Ok, Err}
use Rattle.std.proofs.Common.{refl, ap, sym, subst, ◌∙◌, append_assoc, append-nil, OnOk, decimal}
use Rattle.std.proofs.Common.{flat_map}
use Rattle.std.proofs.lemmas.List.{take_all}
use Rattle.std.proofs.lemmas.List.Concat.{flat_map-append}
use Rattle.json.specs.Token.{Token, begin_array, end_array, number}
use Rattle.json.specs.Tree.{items_tokens}
use Rattle.json.specs.Written.{Written, Writes}
use Rattle.serde_json.specs.Data.{Data, array}
use Rattle.serde_json.specs.View.{items_of}
use Rattle.serde_json.specs.Written.{items_outline}
use Rattle.cert_model.specs.Inner.Tokens.{Adds, tokens_of, tokens_by}
use Rattle.cert_model.specs.Writing.{pair_items}

pub none : (a : Written) → Adds a a []
none a = record { tokens = sym (append-nil a.tokens); before = refl }

pub wrote : {E : Type 0} {x : Unit {0}} {a b : Written} {t : Token} → Writes {E = E} (Ok x) a b t
    → Adds a b (t ∷ [])
wrote h = record { tokens = h.ok; before = h.room.0 }

pub then : {a b c : Written} {ts us : List Token} → Adds a b ts → Adds b c us → Adds a c (ts ++ us)
then {a} {ts = ts} {us = us} h k = record {
  tokens = k.tokens ∙ ap (λ l. l ++ us) h.tokens ∙ append_assoc a.tokens ts us;
  before = k.before ∙ h.before;
}

-- an equal value may replace the value
pub moved : {X : Type 0} {a b : Written} (ts : X → List Token) {x y : X} → x ≡ y → Adds a b (ts x)
    → Adds a b (ts y)
moved {a = a} {b = b} ts e h = subst (λ z. Adds a b (ts z)) e h

-- the last token closes a list or an object, unless memory runs out there
pub closes : {E : Type 0} (r : Result (Unit {0}) E) {b c : Written} {t : Token} (a : Written)
    (ts : List Token) → (Adds b c (t ∷ []) → Adds a c ts) → Writes r b c t → OnOk r (Adds a c ts)
closes (Ok x) a ts h w = h (wrote w)
closes (Err e) a ts h w = tt

-- ---- lists

-- all items
pub all_of : {X : Type 0} {a b : Written} (ts : X → List Token) (xs : List X) (i : ℕ)
    → length xs ≤ i → Adds a b (flat_map ts (take i xs)) → Adds a b (flat_map ts xs)
all_of {a = a} {b = b} ts xs i le h = subst (λ l. Adds a b (flat_map ts l)) (take_all i xs le) h

-- the items between the brackets
within : {X : Type 0} (f : X → Data) (xs : List X)
    → tokens_by f xs ++ end_array ∷ [] ≡ items_tokens (items_outline (items_of (map f xs)))
within f [] = refl
within f (x ∷ xs) =
    append_assoc (tokens_of (f x)) (tokens_by f xs) (end_array ∷ [])
    ∙ ap (λ l. tokens_of (f x) ++ l) (within f xs)

-- one more item
pub one_more : {X : Type 0} {a b c : Written} (f : X → Data) (xs : List X) (x : X)
    → Adds a b (tokens_by f xs) → Adds b c (tokens_of (f x)) → Adds a c (tokens_by f (xs ++ x ∷ []))
one_more f xs x h k =
    moved (λ l. l)
    (ap (λ l. tokens_by f xs ++ l) (sym (append-nil (tokens_of (f x))))
    ∙ sym (flat_map-append (λ y. tokens_of (f y)) xs (x ∷ [])))
    (then h k)

abbrev pub pair_tokens : ℕ × ℕ → List Token
pair_tokens p = number (decimal p.0) ∷ number (decimal p.1) ∷ []

within_pairs : (ps : List (ℕ × ℕ))
    → flat_map pair_tokens ps ++ end_array ∷ [] ≡ items_tokens (items_outline (pair_items ps))
within_pairs [] = refl
within_pairs (p ∷ ps) = ap (λ l. number (decimal p.0) ∷ number (decimal p.1) ∷ l) (within_pairs ps)

pub list : {E X : Type 0} (r : Result (Unit {0}) E) {a b c d : Written} (f : X → Data) (xs : List X)
    → Adds a b (begin_array ∷ []) → Adds b c (tokens_by f xs) → Writes r c d end_array
    → OnOk r (Adds a d (tokens_of (array (items_of (map f xs)))))
list r {a} f xs h k w =
    closes r a (tokens_of (array (items_of (map f xs))))
    (λ end. moved (λ l. begin_array ∷ l) (within f xs) (then h (then k end))) w

pub list_of_pairs : {E : Type 0} (r : Result (Unit {0}) E) {a b c d : Written} (ps : List (ℕ × ℕ))
    → Adds a b (begin_array ∷ []) → Adds b c (flat_map pair_tokens ps) → Writes r c d end_array
    → OnOk r (Adds a d (tokens_of (array (pair_items ps))))
list_of_pairs r {a} ps h k w =
    closes r a (tokens_of (array (pair_items ps)))
    (λ end. moved (λ l. begin_array ∷ l) (within_pairs ps) (then h (then k end))) w
