-- The graph of some code is the graph of other code if and only if its instructions are in that
-- code.
use Rattle.std.proofs.Common.{◌≡◌, ℕ, suc, ◌+◌, ◌-◌, ◌%◌, ◌<◌, ◌↔◌, ◌⊎◌, Bool, true, false, ◌||◌}
use Rattle.std.proofs.Common.{◌==◌, List, [], ◌∷◌, ◌++◌, reverse, length, Option, Some, None}
use Rattle.std.proofs.Common.{Contains, map, slice_get, if◌then◌else◌, refl, sym, ap, ◌∙◌, subst}
use Rattle.std.proofs.Common.{inl, inr, ⊎_elim, arith}
use Rattle.std.specs.List.{list_any}
use Rattle.std.proofs.lemmas.List.{get_or-reverse, length-reverse}
use Rattle.std.proofs.lemmas.Option.{slice_get_within}
use Rattle.crpd_base.proofs.Elements.{head_or_rest, in_none, in_one, contains_at, at_contains}
use Rattle.crpd_base.proofs.Elements.{some_at, at_more}
use Rattle.rv_decode.specs.Flow.{Flow, Plain, Branch, Jump, Call, Return, Exit, Break, OtherJalr}
use Rattle.rv_decode.specs.Flow.{OtherJal, Flows, Words, flow_of_row, flow_of_word, flows}
use Rattle.rv_decode.specs.Range.{HasFieldsInRange}
use Rattle.rv_decode.specs.Table.{ins_of_word}
use Rattle.rv_decode.proofs.Ranges.{row_in_range}
use Rattle.flat_graph.specs.CodeGraph.{CodeGraph, HasCode, IsCodeGraph, ins_of, places_of}
use Rattle.flat_graph.specs.FlatGraph.{FlatNode, IsNode, NodeError, the_first, a_successor}
use Rattle.flat_graph.specs.FlatGraph.{error_of, successors_by, goes_to, ins_error}
use Rattle.flat_graph.specs.FlatGraph.{returns_to, successors, calls}
use Rattle.flat_graph.specs.FlatGraph as flat
use Rattle.flat_graph.specs.Inner.GraphErrors.{HasInstructionAt}
use Rattle.flat_graph.specs.Inner.SameCode.{FitsCode}

-- ---- a node without an error has a word

no_word : (code : Flows) (entry : ℕ) (c : List ℕ) (t : Bool) (o : Option (Option Flow)) → o ≡ None
    → (if t then ins_error code entry c o else Some flat.Misaligned) ≡ None → (P : Type 0) → P
no_word code entry c true o none e P = let f = rw none at e in cc
no_word code entry c false o none e P = cc

pub some_word : (words : Words) (entry : ℕ) (n : FlatNode) → error_of (flows words) entry n ≡ None
    → (w : ℕ) × (words n.address ≡ Some w)
some_word words entry n e = by_word (words n.address) refl
  where
    by_word : (o : Option ℕ) → words n.address ≡ o → (w : ℕ) × (words n.address ≡ Some w)
    by_word (Some w) is = (w, is)
    by_word None is =
        no_word (flows words) entry n.context (n.address % 4 == 0) (flows words n.address)
        (ap (flow_of_word n.address) is) e _

-- ---- the calls under way at a successor

-- a call under way at m is one of these, or is at a
abbrev IsKnown : List ℕ → ℕ → FlatNode → Type 0
IsKnown c a m = (b : ℕ) → Contains m.context b → Contains c b ⊎ (b ≡ a)

same_calls : (c : List ℕ) (a : ℕ) (m : FlatNode) → c ≡ m.context → IsKnown c a m
same_calls c a m e = λ b there. inl (subst (λ l. Contains l b) (sym e) there)

from_reverse : (d : List ℕ) (b : ℕ) → Contains (reverse d) b → Contains d b
from_reverse d b (k, lt, e) =
    let within : k < length d = omega (arith, lt, length-reverse d) in
    (length d - 1 - k, omega (arith, within), sym (get_or-reverse d k b within) ∙ e)

after_return : (c d : List ℕ) (a : ℕ) (m : FlatNode) → reverse c ≡ d → Contains (returns_to d) m
    → IsKnown c a m
after_return c [] a m e there = absurd (in_none m there)
after_return c (x ∷ d) a m e there = λ b under.
    let is = in_one m (record { context = reverse d; address = x + 4 }) there in
    let k = from_reverse d b (subst (λ (n : FlatNode). Contains n.context b) (sym is) under) in
    inl (from_reverse c b (subst (λ l. Contains l b) (sym e) (suc k.0, omega (arith, k.1), k.2)))

after_call : (c : List ℕ) (a t : ℕ) (m : FlatNode)
    → record { context = c ++ a ∷ []; address = t } ≡ m → IsKnown c a m
after_call c a t m e = λ b under.
    let k = contains_at (c ++ a ∷ []) b
    (subst (λ (n : FlatNode). Contains n.context b) (sym e) under) in
    ⊎_elim (λ there. inl (at_contains c k.0 b there)) (λ last. inr (sym last.1))
    (at_more c a k.0 b k.1)

after_branch : (c : List ℕ) (a t : ℕ) (far : Bool) (m : FlatNode)
    → Contains (if far then [] else record { context = c; address = t } ∷ []) m → IsKnown c a m
after_branch c a t true m there = absurd (in_none m there)
after_branch c a t false m there =
    same_calls c a m
    (ap (λ (n : FlatNode). n.context) (in_one m (record { context = c; address = t }) there))

after_flow : (c : List ℕ) (a : ℕ) (f : Flow) (m : FlatNode) → Contains (goes_to c a f) m
    → IsKnown c a m
after_flow c a Plain m there =
    same_calls c a m
    (ap (λ (n : FlatNode). n.context) (in_one m (record { context = c; address = a + 4 }) there))
after_flow c a (Branch t) m there =
    ⊎_elim (λ e. same_calls c a m (ap (λ (n : FlatNode). n.context) e))
    (λ far. after_branch c a t (t == a + 4) m far)
    (head_or_rest (if t == a + 4 then [] else record { context = c; address = t } ∷ []) m
    (record { context = c; address = a + 4 }) there)
after_flow c a (Jump t) m there =
    same_calls c a m
    (ap (λ (n : FlatNode). n.context) (in_one m (record { context = c; address = t }) there))
after_flow c a (Call t) m there =
    after_call c a t m (in_one m (record { context = c ++ a ∷ []; address = t }) there)
after_flow c a Return m there = after_return c (reverse c) a m refl there
after_flow c a Exit m there = absurd (in_none m there)
after_flow c a Break m there = absurd (in_none m there)
after_flow c a OtherJalr m there = absurd (in_none m there)
after_flow c a OtherJal m there = absurd (in_none m there)

after : (x : Option NodeError) (c : List ℕ) (a : ℕ) (f : Option (Option Flow)) (m : FlatNode)
    → Contains (successors_by x c a f) m → IsKnown c a m
after None c a (Some (Some f)) m there = after_flow c a f m there
after None c a (Some None) m there = absurd (in_none m there)
after None c a None m there = absurd (in_none m there)
after (Some x) c a (Some (Some f)) m there = absurd (in_none m there)
after (Some x) c a (Some None) m there = absurd (in_none m there)
after (Some x) c a None m there = absurd (in_none m there)

-- a node without an error is aligned, and its instruction has none
pub aligned : (b : Bool) (o : Option NodeError) → (if b then o else Some flat.Misaligned) ≡ None
    → o ≡ None
aligned true o e = e
aligned false o e = cc

-- ---- codes that agree at a node and at the calls under way there

module _ (code other : Flows) (entry : ℕ) where
  abbrev Agree : List ℕ → Type 0
  Agree c = (a : ℕ) → Contains c a → other a ≡ code a

  same_any : (c : List ℕ) (t : ℕ) → Agree c
      → list_any (λ a. calls (other a) t) c ≡ list_any (λ a. calls (code a) t) c
  same_any [] t known = refl
  same_any (a ∷ c) t known =
      let here : calls (other a) t ≡ calls (code a) t =
      ap (λ o. calls o t) (known a (0, omega arith, refl)) in
      let later : list_any (λ b. calls (other b) t) c ≡ list_any (λ b. calls (code b) t) c =
      same_any c t (λ b k. known b (suc k.0, omega (arith, k.1), k.2)) in
      λ i. here i || later i

  same_ins_error : (c : List ℕ) (o : Option (Option Flow)) → Agree c
      → ins_error other entry c o ≡ ins_error code entry c o
  same_ins_error c None known = refl
  same_ins_error c (Some None) known = refl
  same_ins_error c (Some (Some Plain)) known = refl
  same_ins_error c (Some (Some (Branch t))) known = refl
  same_ins_error c (Some (Some (Jump t))) known = refl
  same_ins_error c (Some (Some (Call t))) known =
      ap (λ under. if (t == entry) || under then Some flat.Recursive
      else (if length c == 16 then Some flat.TooDeep else None)) (same_any c t known)
  same_ins_error c (Some (Some Return)) known = refl
  same_ins_error c (Some (Some Exit)) known = refl
  same_ins_error c (Some (Some Break)) known = refl
  same_ins_error c (Some (Some OtherJalr)) known = refl
  same_ins_error c (Some (Some OtherJal)) known = refl

  same_error : (n : FlatNode) → other n.address ≡ code n.address → Agree n.context
      → error_of other entry n ≡ error_of code entry n
  same_error n here known =
      ap (λ e. if n.address % 4 == 0 then e else Some flat.Misaligned)
      (ap (ins_error other entry n.context) here ∙ same_ins_error n.context (code n.address) known)

  same_successors : (n : FlatNode) → other n.address ≡ code n.address → Agree n.context
      → successors other entry n ≡ successors code entry n
  same_successors n here known =
      let e = same_error n here known in
      λ i. successors_by (e i) n.context n.address (here i)

-- ---- the graph in the other code

module _ (words others : Words) (entry : ℕ) (g : CodeGraph) (X : IsCodeGraph words entry g) where
  number : (n : FlatNode) → IsNode (flows words) entry n
      → (u : ℕ) × (u < length g.nodes) × (slice_get X.nodes u ≡ Some n)
  number n h =
      let k = contains_at X.nodes n ((X.flat.numbering.all n).0 h) in
      (k.0, subst (λ l. k.0 < l) (sym X.flat.size) (slice_get_within X.nodes k.0 n k.1), k.1)

  -- in its own code the instructions are at their nodes
  own : (u : ℕ) → u < length g.nodes → HasInstructionAt words ((places_of g).address u) (ins_of g u)
  own u lt =
      let n = some_at X.nodes u (subst (λ l. u < l) X.flat.size lt) in
      let w = some_word words entry n.0
      (X.no_errors n.0 ((X.flat.numbering.all n.0).1 (at_contains X.nodes u n.0 n.1))) in
      let at : words ((places_of g).address u) ≡ Some w.0 =
      ap words (X.places.node u n.0 n.1).1 ∙ w.1 in
      (w.0, at, X.instructions u w.0 lt at)

  module _
      (S : (u : ℕ) → u < length g.nodes
      → HasInstructionAt others ((places_of g).address u) (ins_of g u)) where
    same_at : (n : FlatNode) → IsNode (flows words) entry n
        → flows others n.address ≡ flows words n.address
    same_at n h =
        let u = number n h in
        let p = (X.places.node u.0 n u.2).1 in
        let s = S u.0 u.1 in
        let t = own u.0 u.1 in
        let there : others n.address ≡ Some s.0 = ap others (sym p) ∙ s.1 in
        let here : words n.address ≡ Some t.0 = ap words (sym p) ∙ t.1 in
        ap (flow_of_word n.address) there ∙ ap (λ r. Some (flow_of_row n.address r)) (s.2 ∙ sym t.2)
        ∙ sym (ap (flow_of_word n.address) here)

    -- each call under way is at a node
    known : (n : FlatNode) → IsNode (flows words) entry n
        → Agree (flows words) (flows others) entry n.context
    known n (the_first) = λ a there. absurd (in_none a there)
    known m (a_successor n m' h c) = λ a there.
        ⊎_elim (λ k. known n h a k)
        (λ (e : a ≡ n.address). subst (λ b. flows others b ≡ flows words b) (sym e) (same_at n h))
        (after (error_of (flows words) entry n) n.context n.address (flows words n.address)
        m c a there)

    same_next : (n : FlatNode) → IsNode (flows words) entry n
        → successors (flows others) entry n ≡ successors (flows words) entry n
    same_next n h = same_successors (flows words) (flows others) entry n (same_at n h) (known n h)

    to : (n : FlatNode) → IsNode (flows words) entry n → IsNode (flows others) entry n
    to n (the_first) = the_first
    to m (a_successor n m' h c) =
        a_successor n m (to n h) (subst (λ l. Contains l m) (sym (same_next n h)) c)

    back : (n : FlatNode) → IsNode (flows others) entry n → IsNode (flows words) entry n
    back n (the_first) = the_first
    back m (a_successor n m' h c) =
        let k = back n h in a_successor n m k (subst (λ l. Contains l m) (same_next n k) c)

    fitting : IsCodeGraph others entry g
    fitting = record {
      nodes = X.nodes;
      flat = record {
        numbering = record {
          ordered = X.flat.numbering.ordered;
          all = λ n. (
            (λ h. (X.flat.numbering.all n).0 (back n h)),
            (λ h. to n ((X.flat.numbering.all n).1 h)),
          );
        };
        size = X.flat.size;
        first = X.flat.first;
        next = λ u n e.
            X.flat.next u n e ∙ ap (map Some)
            (sym (same_next n ((X.flat.numbering.all n).1 (at_contains X.nodes u n e))));
      };
      places = X.places;
      no_errors = λ m h.
          let k = back m h in
          same_error (flows words) (flows others) entry m (same_at m k) (known m k)
          ∙ X.no_errors m k;
      instructions = λ u w lt e.
          let s = S u lt in
          let same : s.0 ≡ w = cc in
          subst (λ v. ins_of_word v ≡ Some (ins_of g u)) same s.2;
    }

-- the instructions at the nodes of a graph have their fields in range
pub ins_in_range : (g : CodeGraph) → HasCode g → (u : ℕ) → u < length g.nodes
    → HasFieldsInRange (ins_of g u)
ins_in_range g has u lt =
    let s = own has.words has.words has.entry g has.of_code u lt in
    row_in_range s.0 (ins_of g u) (sym s.2)

-- the first node is at the entry
first_at : (words : Words) (entry : ℕ) (g : CodeGraph) → IsCodeGraph words entry g
    → (places_of g).address g.first ≡ entry
first_at words entry g X = (X.places.node g.first _ X.flat.first).1

pub fits_code : (words : Words) (entry : ℕ) (g : CodeGraph) → HasCode g
    → FitsCode words entry g ↔ IsCodeGraph words entry g
fits_code words entry g has = (
  (λ F.
      let here : has.entry ≡ entry = sym (first_at has.words has.entry g has.of_code) ∙ F.first in
      fitting has.words words entry g
      (subst (λ e. IsCodeGraph has.words e g) here has.of_code) F.stands),
  (λ X. record { first = first_at words entry g X; stands = own words words entry g X }),
)
