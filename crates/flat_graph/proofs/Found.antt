-- The points that were found, after one more point.
use Rattle.std.proofs.Common.{◌≡◌, ℕ, ◌+◌, ◌<◌, ◌≤◌, Bool, false, true, List, [], ◌∷◌, ◌++◌, length}
use Rattle.std.proofs.Common.{Contains, refl, sym, ap, ◌∙◌, subst, ⊎_elim, arith, Result, Ok, Err}
use Rattle.std.proofs.Common.{OnOk, ◌&&◌, ◌==◌, if◌then◌else◌, slice_get, Some}
use Rattle.std.proofs.lemmas.Bool.{eqb-true, eq-eqb, and_parts, and_from, both_ways}
use Rattle.std.proofs.lemmas.List.{map-append, append_assoc, length_push}
use Rattle.std.proofs.lemmas.List.Elements.{Contains-append_left, Contains-append_right}
use Rattle.std.proofs.lemmas.List.Elements.{Contains-append_cases, All-push}
use Rattle.std.proofs.lemmas.Map.Keys.{apart_from_distinct}
use Rattle.std.specs.List.{list_any, IsDistinct}
use Rattle.indexmap.specs.IndexSet.{insert_key}
use Rattle.indexmap.proofs.CallerLemmas.{Contains-list_any}
use Rattle.std.proofs.lemmas.Option.{slice_get_within}
use Rattle.crpd_base.proofs.Elements.{at_head, at_rest, head_or_rest, in_none, in_one, contains_map}
use Rattle.crpd_base.proofs.Elements.{slice_get_left}
use Rattle.flat_graph.specs.FlatGraph.{FlatNode}
use Rattle.flat_graph.specs.Inner.GraphParts.{AreNumbers}
use Rattle.flat_graph.specs.Inner.Reach.{AreAdded, AreDistinct, HaveLists}
use Rattle.flat_graph.specs.Inner.Points.{point_node, point_nodes}
use Rattle.flat_graph.specs.declared.points.ProgramPoint.{ProgramPoint}

pub on_ok : {T E : Type 0} (r : Result T E) (P : Type 0) → P → OnOk r P
on_ok (Ok x) P p = p
on_ok (Err e) P p = tt

pub on_ok_map : {T E : Type 0} (r : Result T E) (P Q : Type 0) → (P → Q) → OnOk r P → OnOk r Q
on_ok_map (Ok x) P Q f p = f p
on_ok_map (Err e) P Q f p = tt

pub added_none : (old some : List FlatNode) → ((n : FlatNode) → Contains some n → Contains old n)
    → AreAdded old some old
added_none old some f = record {
  more = [];
  behind = sym (append_nil old);
  among = λ n c. absurd (in_none n c);
  has = f;
}
  where
    append_nil : (l : List FlatNode) → l ++ [] ≡ l
    append_nil [] = refl
    append_nil (x ∷ l) = ap (λ r. x ∷ r) (append_nil l)

-- nothing is added
pub added_nothing : (old : List FlatNode) → AreAdded old [] old
added_nothing old = added_none old [] (λ n c. absurd (in_none n c))

pub added_there : (lists : List (List ℕ)) (old : List ProgramPoint) (s : ProgramPoint)
    → Contains old s
    → AreAdded (point_nodes lists old) (point_node lists s ∷ []) (point_nodes lists old)
added_there lists old s there =
    added_none (point_nodes lists old) (point_node lists s ∷ [])
    (λ n m. subst (Contains (point_nodes lists old)) (in_one n _ m)
    (contains_map (point_node lists) old s there))

pub added_one : (lists : List (List ℕ)) (old new : List ProgramPoint) (s : ProgramPoint)
    → new ≡ old ++ s ∷ []
    → AreAdded (point_nodes lists old) (point_node lists s ∷ []) (point_nodes lists new)
added_one lists old new s e = record {
  more = point_node lists s ∷ [];
  behind = split;
  among = λ n c. c;
  has = λ n c.
      subst (λ l. Contains l n) (sym split)
      (Contains-append_right (point_nodes lists old) (point_node lists s ∷ []) n c);
}
  where
    split : point_nodes lists new ≡ point_nodes lists old ++ point_node lists s ∷ []
    split = ap (point_nodes lists) e ∙ map-append (point_node lists) old (s ∷ [])

pub added_then : (old mid new : List FlatNode) (a b : FlatNode) → AreAdded old (a ∷ []) mid
    → AreAdded mid (b ∷ []) new → AreAdded old (a ∷ b ∷ []) new
added_then old mid new a b A B = record {
  more = A.more ++ B.more;
  behind = B.behind ∙ ap (λ l. l ++ B.more) A.behind ∙ append_assoc old A.more B.more;
  among = λ n c.
      ⊎_elim
      (λ l. at_head (b ∷ []) n a (in_one n a (A.among n l)))
      (λ r. at_rest (b ∷ []) n a (B.among n r))
      (Contains-append_cases A.more B.more n c);
  has = λ n c.
      ⊎_elim
      (λ e. subst (λ l. Contains l n) (sym B.behind)
      (Contains-append_left mid B.more n (A.has n (at_head [] n a e))))
      (λ r. B.has n r)
      (head_or_rest (b ∷ []) n a c);
}

module _ (eq : ProgramPoint → ProgramPoint → Bool)
    (is : (s t : ProgramPoint) → eq s t ≡ (s.context == t.context && s.address == t.address)) where
  -- points that compare as equal are one
  pub same_point : (s t : ProgramPoint) → eq s t ≡ true → s ≡ t
  same_point s t e =
      let parts = and_parts (s.context == t.context) (s.address == t.address) (sym (is s t) ∙ e) in
      let context = eqb-true s.context t.context parts.0 in
      let address = eqb-true s.address t.address parts.1 in
      λ i. record { context = context i; address = address i }

  equal_to_itself : (s t : ProgramPoint) → s ≡ t → eq s t ≡ true
  equal_to_itself s t e =
      is s t
      ∙ and_from (s.context == t.context) (s.address == t.address)
      (eq-eqb s.context t.context (ap (λ (p : ProgramPoint). p.context) e))
      (eq-eqb s.address t.address (ap (λ (p : ProgramPoint). p.address) e))

  -- keys that differ are points that differ
  pub distinct_points : (ks : List ProgramPoint) → IsDistinct eq ks → AreDistinct ks
  distinct_points ks h i j d lt within e =
      both_ways (eq _ _) (apart_from_distinct eq ks i j d h lt within) (equal_to_itself _ _ e)

  -- a point that is inserted is added
  pub added_point : (lists : List (List ℕ)) (ks : List ProgramPoint) (s : ProgramPoint)
      → AreAdded (point_nodes lists ks) (point_node lists s ∷ [])
      (point_nodes lists (insert_key eq ks s))
  added_point lists ks s = by (list_any (eq s) ks) refl
    where
      by : (b : Bool) → list_any (eq s) ks ≡ b
          → AreAdded (point_nodes lists ks) (point_node lists s ∷ [])
          (point_nodes lists (if b then ks else ks ++ s ∷ []))
      by true e = added_there lists ks s (Contains-list_any eq same_point ks s e)
      by false e = added_one lists ks (ks ++ s ∷ []) s refl

  -- the points have lists of calls, with the one that is inserted
  pub inside_inserted : (lists : List (List ℕ)) (ks : List ProgramPoint) (s : ProgramPoint)
      → HaveLists lists ks → s.context < length lists → HaveLists lists (insert_key eq ks s)
  inside_inserted lists ks s h lt = by (list_any (eq s) ks)
    where
      by : (b : Bool) → HaveLists lists (if b then ks else ks ++ s ∷ [])
      by true = h
      by false = All-push (λ (t : ProgramPoint). t.context < length lists) ks s h lt

  -- there is one more at most
  pub count_inserted : (ks : List ProgramPoint) (s : ProgramPoint)
      → length (insert_key eq ks s) ≤ length ks + 1
  count_inserted ks s = by (list_any (eq s) ks)
    where
      by : (b : Bool) → length (if b then ks else ks ++ s ∷ []) ≤ length ks + 1
      by true = omega arith
      by false = omega (arith, length_push ks s)

-- the number of one node
pub one_number : (nodes : List FlatNode) (v : ℕ) (n : FlatNode) → slice_get nodes v ≡ Some n
    → AreNumbers nodes (v ∷ []) (n ∷ [])
one_number nodes v n e = λ i. e i ∷ []

-- the numbers of two nodes
pub two_numbers : (nodes : List FlatNode) (v w : ℕ) (n m : FlatNode) → slice_get nodes v ≡ Some n
    → slice_get nodes w ≡ Some m → AreNumbers nodes (v ∷ w ∷ []) (n ∷ m ∷ [])
two_numbers nodes v w n m e f = λ i. e i ∷ f i ∷ []

-- a node keeps its number
pub stays : (old some new : List FlatNode) → AreAdded old some new → (v : ℕ) (n : FlatNode)
    → slice_get old v ≡ Some n → slice_get new v ≡ Some n
stays old some new A v n e =
    ap (λ l. slice_get l v) A.behind
    ∙ slice_get_left old A.more v (slice_get_within old v n e) ∙ e
