-- A list that is read item by item, in order.
use Rattle.std.proofs.Common.{◌≡◌, ℕ, ◌+◌, ◌<◌, ◌≤◌, List, [], ◌∷◌, ◌++◌, length, get_or, drop}
use Rattle.std.proofs.Common.{true, false, Option, Some, None, option_map, ap, subst, sym, ◌∙◌}
use Rattle.std.specs.Prelude.{Bool, option_and_then}
use Rattle.std.proofs.Math.ListN.{drop_of_length-le}
use Rattle.std.proofs.lemmas.List.{append-nil}
use Rattle.crpd_base.specs.declared.data.NodeState.{NodeState}
use Rattle.serde_json.specs.Data.{Data, Items}
use Rattle.serde_json.specs.Find.{as_array}
use Rattle.serde_json.specs.View.{view, items_view}
use Rattle.serde_json.specs.declared.value.Value.{Value}
use Rattle.text_keys.specs.Named.{only}
use Rattle.cert_model.specs.Kinds.{all_of, listed, state_value, states_from}
use Rattle.cert_model.proofs.Rising.{front_moved, items_from, same_option}

-- what was read, in front of what is still to be read
abbrev pub in_front : {A : Type 0} → List A → Option (List A) → Option (List A)
in_front front o = option_map (λ rest. front ++ rest) o

-- ---- items that are all of one kind

abbrev with_item : {A : Type 0} → (Data → Option A) → List A → Items → Option A → Option (List A)
with_item kind front ds o =
    in_front front (option_and_then (λ x. option_map (λ xs. x ∷ xs) (all_of kind ds)) o)

pub items_start : {A : Type 0} (kind : Data → Option A) (front : List A) (vs : List Value)
    → front ≡ [] → in_front front (all_of kind (items_view (drop 0 vs)))
    ≡ all_of kind (items_view vs)
items_start kind front vs e = rw e (same_option (all_of kind (items_view vs)))

pub item_more : {A : Type 0} (kind : Data → Option A) (front new : List A) (vs : List Value)
    (i : ℕ) (v : Value) (x : A) (all : Option (List A)) → i < length vs → v ≡ get_or vs i v
    → Some x ≡ kind (view v) → new ≡ front ++ x ∷ []
    → in_front front (all_of kind (items_view (drop i vs))) ≡ all
    → in_front new (all_of kind (items_view (drop (i + 1) vs))) ≡ all
item_more kind front new vs i v x all n at is pushed read =
    rw pushed
    (sym (front_moved front x (all_of kind (items_view (drop (i + 1) vs))))
    ∙ ap (with_item kind front (items_view (drop (i + 1) vs))) is
    ∙ sym (ap (λ ds. in_front front (all_of kind ds)) (items_from vs i v n at)) ∙ read)

pub item_fault : {A : Type 0} (kind : Data → Option A) (front : List A) (vs : List Value) (i : ℕ)
    (v : Value) (all : Option (List A)) → i < length vs → v ≡ get_or vs i v
    → None ≡ kind (view v) → in_front front (all_of kind (items_view (drop i vs))) ≡ all
    → None ≡ all
item_fault kind front vs i v all n at is read =
    ap (with_item kind front (items_view (drop (i + 1) vs))) is
    ∙ sym (ap (λ ds. in_front front (all_of kind ds)) (items_from vs i v n at)) ∙ read

pub items_all : {A : Type 0} (kind : Data → Option A) (front : List A) (vs : List Value) (i : ℕ)
    (all : Option (List A)) → length vs ≤ i
    → in_front front (all_of kind (items_view (drop i vs))) ≡ all → Some front ≡ all
items_all kind front vs i all n read =
    ap (λ l. Some l) (sym (append-nil front))
    ∙ sym (ap (λ l. in_front front (all_of kind (items_view l))) (drop_of_length-le vs n)) ∙ read

-- the items of a list, read by kind, are the list of that kind
pub of_list : {A : Type 0} (kind : Data → Option A) (d : Data) (vs ws : List Value) → vs ≡ ws
    → Some (items_view ws) ≡ as_array d → all_of kind (items_view vs) ≡ listed kind d
of_list kind d vs ws e is =
    ap (λ l. all_of kind (items_view l)) e ∙ ap (option_and_then (all_of kind)) is

-- a list is the result if it passes the test
pub kept : {A : Type 0} (test : A → Bool) (x : A) (o : Option A) → test x ≡ true → Some x ≡ o
    → Some x ≡ only test o
kept test x o is e = subst (λ p. Some x ≡ only test p) e (rw is)

pub left_out : {A : Type 0} (test : A → Bool) (x : A) (o : Option A) → test x ≡ false → Some x ≡ o
    → None ≡ only test o
left_out test x o is e = subst (λ p. None ≡ only test p) e (rw is)

-- ---- states, each with its node above the one before

abbrev with_state : ℕ → ℕ → List NodeState → Items → Option NodeState → Option (List NodeState)
with_state sets nodes front ds o =
    in_front front
    (option_and_then (λ s. option_map (λ more. s ∷ more) (states_from sets nodes (s.node + 1) ds))
    o)

pub states_start : (sets nodes : ℕ) (front : List NodeState) (vs : List Value) → front ≡ []
    → in_front front (states_from sets nodes 0 (items_view (drop 0 vs)))
    ≡ states_from sets nodes 0 (items_view vs)
states_start sets nodes front vs e = rw e (same_option (states_from sets nodes 0 (items_view vs)))

pub state_more : (sets nodes low : ℕ) (front new : List NodeState) (vs : List Value) (i node : ℕ)
    (v : Value) (s : NodeState) (all : Option (List NodeState)) → i < length vs
    → v ≡ get_or vs i v → Some s ≡ state_value sets nodes low (view v) → new ≡ front ++ s ∷ []
    → node ≡ s.node → in_front front (states_from sets nodes low (items_view (drop i vs))) ≡ all
    → in_front new (states_from sets nodes (node + 1) (items_view (drop (i + 1) vs))) ≡ all
state_more sets nodes low front new vs i node v s all n at is pushed same read =
    rw (pushed, same)
    (sym (front_moved front s (states_from sets nodes (s.node + 1) (items_view (drop (i + 1) vs))))
    ∙ ap (with_state sets nodes front (items_view (drop (i + 1) vs))) is
    ∙ sym (ap (λ ds. in_front front (states_from sets nodes low ds)) (items_from vs i v n at))
    ∙ read)

pub state_fault : (sets nodes low : ℕ) (front : List NodeState) (vs : List Value) (i : ℕ)
    (v : Value) (all : Option (List NodeState)) → i < length vs → v ≡ get_or vs i v
    → None ≡ state_value sets nodes low (view v)
    → in_front front (states_from sets nodes low (items_view (drop i vs))) ≡ all → None ≡ all
state_fault sets nodes low front vs i v all n at is read =
    ap (with_state sets nodes front (items_view (drop (i + 1) vs))) is
    ∙ sym (ap (λ ds. in_front front (states_from sets nodes low ds)) (items_from vs i v n at))
    ∙ read

pub states_all : (sets nodes low : ℕ) (front : List NodeState) (vs : List Value) (i : ℕ)
    (all : Option (List NodeState)) → length vs ≤ i
    → in_front front (states_from sets nodes low (items_view (drop i vs))) ≡ all → Some front ≡ all
states_all sets nodes low front vs i all n read =
    ap (λ l. Some l) (sym (append-nil front))
    ∙ sym (ap (λ l. in_front front (states_from sets nodes low (items_view l)))
    (drop_of_length-le vs n)) ∙ read

pub of_states : (sets nodes : ℕ) (d : Data) (vs ws : List Value) → vs ≡ ws
    → Some (items_view ws) ≡ as_array d → states_from sets nodes 0 (items_view vs)
    ≡ option_and_then (states_from sets nodes 0) (as_array d)
of_states sets nodes d vs ws e is =
    ap (λ l. states_from sets nodes 0 (items_view l)) e
    ∙ ap (option_and_then (states_from sets nodes 0)) is
