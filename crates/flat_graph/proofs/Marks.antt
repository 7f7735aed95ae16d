-- Marks, node by node.
use Rattle.std.proofs.Common.{◌≡◌, ◌≢◌, ℕ, ◌+◌, ◌<◌, ◌≤◌, ◌↔◌, Bool, true, false, ◌==◌, ◌||◌}
use Rattle.std.proofs.Common.{if◌then◌else◌, List, [], ◌∷◌, ◌++◌, zero, suc, map, take, drop}
use Rattle.std.proofs.Common.{length, Contains, Some, slice_get, refl, sym, ◌∙◌, subst, inl, inr}
use Rattle.std.proofs.Common.{⊎_elim, ◌⊎◌, arith, IsTrue}
use Rattle.std.proofs.lemmas.Bool.{cases_lt, cases_eq}
use Rattle.std.proofs.lemmas.Bool.Decides.{nat_tests}
use Rattle.std.proofs.Common.{ap, get_or, set, replicate, get_or-set_other}
use Rattle.std.proofs.lemmas.Grind.{get_or-set_at}
use Rattle.std.proofs.lemmas.List.{take_at, length-set, get_or-replicate}
use Rattle.std.proofs.lemmas.Option.{slice_get_within, slice_get-get_or}
use Rattle.crpd_base.proofs.Elements.{at_head, at_rest, head_or_rest, in_none, in_one, some_at}
use Rattle.flat_graph.specs.declared.graph.NodeBody.{NodeBody}
use Rattle.flat_graph.specs.Graph.{Graph, Edge, Continues, IsLeader}
use Rattle.flat_graph.specs.Inner.StoredGraph.{next_nodes}
use Rattle.flat_graph.specs.Inner.Leaders.{AreEnds, IsMarked, AreMarked, HasLeaders, is_leading}
use Rattle.flat_graph.specs.Inner.Leaders.{mark_after_edges, mark_after_edge}
use Rattle.flat_graph.specs.declared.graph.NextNodes.{NextNodes}
use Rattle.flat_graph.specs.declared.graph.NextNodes.TheVariants.{Ends, To, Either}
use Rattle.flat_graph.specs.declared.leaders.Mark.{Mark}
use Rattle.flat_graph.specs.declared.leaders.Mark.TheVariants as mark

module _ (g : Graph) (k : ℕ) (lt : k < g.size) where
  -- a node that no edge from node k leads to
  stays : (v : ℕ) (m : Mark) → (Contains (g.next k) v → ⊥) → IsMarked g k v m
      → IsMarked g (k + 1) v m
  stays v mark.Unmet none h = (
    h.0,
    λ u below c. ⊎_elim (λ old. h.1 u old c)
        (λ new. none (subst (λ i. Contains (g.next i) v) (the u new below) c)) (cases_lt u k),
  )
    where
      the : (u : ℕ) → k ≤ u → u < k + 1 → u ≡ k
      the u a b = omega arith
  stays v mark.Continues none h = (
    h.0,
    h.1,
    omega (arith, h.2),
    h.3,
    λ w below c. ⊎_elim (λ old. h.4 w old c)
        (λ new. absurd (none (subst (λ i. Contains (g.next i) v) (the w new below) c)))
        (cases_lt w k),
  )
    where
      the : (u : ℕ) → k ≤ u → u < k + 1 → u ≡ k
      the u a b = omega arith
  stays v mark.Leads none h = h

  -- the only edge from node k leads to v
  met_once : (v : ℕ) (m : Mark) → g.next k ≡ v ∷ [] → IsMarked g k v m
      → IsMarked g (k + 1) v (mark_after_edge m)
  met_once v mark.Unmet e h = (
    h.0,
    k,
    omega arith,
    e,
    λ w below c. ⊎_elim (λ old. absurd (h.1 w old c)) (λ new. omega (arith, new, below))
        (cases_lt w k),
  )
  met_once v mark.Continues e h = λ c.
      let from : h.1 ≡ c.0 = c.1.one_edge h.1 (
        omega (arith, h.2),
        subst (λ l. Contains l v) (sym h.3) (at_head [] v v refl),
      ) in
      let here : k ≡ c.0 = c.1.one_edge k (
        lt,
        subst (λ l. Contains l v) (sym e) (at_head [] v v refl),
      ) in
      absurd (omega (arith, from, here, h.2))
  met_once v mark.Leads e h = h

  -- two edges leave node k, one of them to v
  met_beside : (v a b : ℕ) → g.next k ≡ a ∷ b ∷ [] → a ≢ b → Contains (g.next k) v → IsLeader g v
  met_beside v a b e apart c s =
      let here : k ≡ s.0 = s.1.one_edge k (lt, c) in
      let to_a : a ≡ v = s.1.one_successor a (from s.0 here a (at_head (b ∷ []) a a refl)) in
      let to_b : b ≡ v = s.1.one_successor b
      (from s.0 here b (at_rest (b ∷ []) b a (at_head [] b b refl))) in
      apart (to_a ∙ sym to_b)
    where
      from : (u : ℕ) → k ≡ u → (w : ℕ) → Contains (a ∷ b ∷ []) w → Edge g u w
      from u same w d = subst (λ i. Edge g i w) same (lt, subst (λ l. Contains l w) (sym e) d)

  other_one : (v a : ℕ) → g.next k ≡ a ∷ [] → (v == a) ≡ false → Contains (g.next k) v → ⊥
  other_one v a e f c =
      let same = in_one v a (subst (λ l. Contains l v) e c) in absurd (grind (arith, nat_tests))

  other_two : (v a b : ℕ) → g.next k ≡ a ∷ b ∷ [] → ((v == a) || (v == b)) ≡ false
      → Contains (g.next k) v → ⊥
  other_two v a b e f c =
      ⊎_elim
      (λ (s : a ≡ v). absurd (grind (arith, nat_tests)))
      (λ r. let same = in_one v b r in absurd (grind (arith, nat_tests)))
      (head_or_rest (b ∷ []) v a (subst (λ l. Contains l v) e c))

  pub marked_more : (next : NextNodes) → AreEnds g.size next → g.next k ≡ next_nodes next
      → (v : ℕ) (m : Mark) → IsMarked g k v m → IsMarked g (k + 1) v (mark_after_edges next v m)
  marked_more Ends E e v m h = stays v m (λ c. in_none v (subst (λ l. Contains l v) e c)) h
  marked_more (To a) E e v m h = by (v == a) refl
    where
      by : (b : Bool) → (v == a) ≡ b → IsMarked g (k + 1) v (if b then mark_after_edge m else m)
      by true t =
          let same : v ≡ a = grind (arith, nat_tests) in
          met_once v m (subst (λ x. g.next k ≡ x ∷ []) (sym same) e) h
      by false f = stays v m (other_one v a e f) h
  marked_more (Either a b) E e v m h = by ((v == a) || (v == b)) refl
    where
      one_of : ((v == a) || (v == b)) ≡ true → (a ≡ v) ⊎ (b ≡ v)
      one_of t = ⊎_elim (λ s. inl (sym s)) (λ n. inr (grind (arith, nat_tests))) (cases_eq v a)

      by : (x : Bool) → ((v == a) || (v == b)) ≡ x
          → IsMarked g (k + 1) v (if x then mark.Leads else m)
      by true t =
          met_beside v a b e E.apart
          (subst (λ l. Contains l v) (sym e)
          (⊎_elim (λ s. at_head (b ∷ []) v a s) (λ s. at_rest (b ∷ []) v a (at_head [] v b s))
          (one_of t)))
      by false f = stays v m (other_two v a b e f) h

-- after all edges, the mark shows whether the node is a leader
pub marks_tell : (g : Graph) (v : ℕ) (m : Mark) → IsMarked g g.size v m
    → IsTrue (is_leading m) ↔ IsLeader g v
marks_tell g v mark.Unmet h = (λ n c. h.1 c.0 c.1.edge.0 c.1.edge.1, λ l. refl)
marks_tell g v mark.Continues h = (λ n. cc, λ l. absurd (l (h.1, goes_on)))
  where
    goes_on : Continues g h.1 v
    goes_on = record {
      edge = (h.2, subst (λ l. Contains l v) (sym h.3) (at_head [] v v refl));
      not_first = h.0;
      one_edge = λ w e. h.4 w e.0 e.1;
      one_successor = λ w e. sym (in_one w v (subst (λ l. Contains l w) h.3 e.1));
    }
marks_tell g v mark.Leads h = (λ n. h, λ l. refl)

pub all_met : (bodies : List NodeBody) (first : ℕ) (marks : List Mark)
    → AreMarked bodies first (length bodies) marks → HasLeaders bodies first (map is_leading marks)
all_met bodies first marks M g E v b e =
    let m = some_mark marks v b e in
    let tell = marks_tell g v m.0
    (subst (λ n. IsMarked g n v m.0) (sym E.size) (M g E v m.0 m.1)) in
    subst (λ x. IsTrue x ↔ IsLeader g v) m.2 tell
  where
    some_mark : (ms : List Mark) (k : ℕ) (x : Bool) → slice_get (map is_leading ms) k ≡ Some x
        → (m : Mark) × (slice_get ms k ≡ Some m) × (is_leading m ≡ x)
    some_mark [] k x s = cc
    some_mark (m ∷ ms) zero x s = (m, refl, cc)
    some_mark (m ∷ ms) (suc k) x s = some_mark ms k x s

-- the marks before the first edge
pub first_marked : (bodies : List NodeBody) (first n : ℕ) (marks : List Mark)
    → marks ≡ replicate n mark.Unmet → length marks ≡ n → first < n
    → AreMarked bodies first 0 (set marks first mark.Leads)
first_marked bodies first n marks all size lt g E v m e =
    let new = set marks first mark.Leads in
    let within = slice_get_within new v m e in
    let at = slice_get-get_or new v m within in
    let is : m ≡ get_or new v m = cc in
    ⊎_elim
    (λ same. subst (IsMarked g 0 v)
    (sym (is ∙ get_or-set_at marks first v mark.Leads m same (omega (arith, size))))
    (λ c. c.1.not_first (same ∙ sym E.start)))
    (λ other. subst (IsMarked g 0 v)
    (sym (is ∙ get_or-set_other marks first v mark.Leads m other ∙ ap (λ l. get_or l v m) all
    ∙ get_or-replicate n v mark.Unmet m (omega (arith, size, length-set marks first mark.Leads))))
    (λ s. other (s ∙ E.start), λ u below. absurd (omega (arith, below))))
    (cases_eq v first)

-- the marks after the edges of one more body
pub all_more : (bodies : List NodeBody) (first k : ℕ) (l : NodeBody) (old new : List Mark)
    → AreMarked bodies first k old → slice_get bodies k ≡ Some l → AreEnds (length bodies) l.next →
    length new ≡ length old
    → ((v : ℕ) (m n : Mark) → slice_get old v ≡ Some m → slice_get new v ≡ Some n
    → n ≡ mark_after_edges l.next v m) → AreMarked bodies first (k + 1) new
all_more bodies first k l old new M at ends same after g E v n e =
    let m = some_at old v (omega (arith, same, slice_get_within new v n e)) in
    let below : k < g.size = omega (arith, E.size, slice_get_within bodies k l at) in
    subst (IsMarked g (k + 1) v) (sym (after v m.0 n m.1 e))
    (marked_more g k below l.next (subst (λ s. AreEnds s l.next) (sym E.size) ends)
    (E.next k l at) v m.0 (M g E v m.0 m.1))

pub whole : {X : Type 0} (new old : List X) (n : ℕ) → length new ≡ length old → n ≡ length old
    → take n (new ++ drop (length new) old) ≡ new
whole new old n same all = take_at new (drop (length new) old) n (omega arith)
