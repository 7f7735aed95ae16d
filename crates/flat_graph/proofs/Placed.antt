-- The points in the order of numbering, with the places at which they were found.
use Rattle.std.proofs.Common.{◌≡◌, ℕ, ◌+◌, ◌<◌, ◌≤◌, false, List, [], ◌∷◌, ◌++◌, length, map}
use Rattle.std.proofs.Common.{Some, Option, slice_get, get_or, slice_index_or, refl, sym, ap, ◌∙◌}
use Rattle.std.proofs.Common.{subst, ⊎_elim, arith, option_map, is_lt, set, take}
use Rattle.std.proofs.lemmas.Bool.{cases_eq, cases_order}
use Rattle.std.proofs.lemmas.List.{length-map, get_or-map, map-append, take_more, length-set}
use Rattle.std.proofs.lemmas.List.{get_or-set_same, get_or-set_other}
use Rattle.std.proofs.lemmas.List.Sorted.{IsPermutation-map, IsPermutation-sym}
use Rattle.std.proofs.lemmas.List.Sorted.{Contains-permutation, length_permutation}
use Rattle.std.proofs.lemmas.Option.{slice_get-map, slice_get_within, same_Some}
use Rattle.std.proofs.lemmas.Option.{get_or_from_slice_get, slice_get-get_or}
use Rattle.std.specs.List.Sorted.{IsPermutation, IsSortedBy}
use Rattle.crpd_base.proofs.Elements.{contains_at, at_contains, some_at, at_more}
use Rattle.rv_decode.specs.Flow.{Words, flows}
use Rattle.flat_graph.specs.FlatGraph.{FlatNode, HasMoreNodes, IsNumbering, IsNumberedBefore}
use Rattle.flat_graph.specs.Inner.NumberingOrder.{flat_cmp}
use Rattle.flat_graph.specs.Inner.GraphParts.{AreNumbers}
use Rattle.flat_graph.specs.Inner.Ordered.{AreOrdered, AreRanks, HaveOwnPlaces, IsEntryAt, nodes_of}
use Rattle.flat_graph.specs.Inner.Reach.{ArePlaced, AreDistinct, AreAllFollowed, nodes_found}
use Rattle.flat_graph.specs.Inner.Reach.{AreFoundBodies, IsFoundBody, HaveLists}
use Rattle.flat_graph.specs.Inner.Points.{point_node, point_nodes, points_of}
use Rattle.flat_graph.specs.declared.graph.NodeBody.{NodeBody}
use Rattle.flat_graph.specs.declared.reach.Found.{Found}
use Rattle.flat_graph.specs.declared.reach.Ordered.{Ordered}
use Rattle.flat_graph.specs.declared.points.FoundPoint.{FoundPoint}
use Rattle.flat_graph.specs.declared.points.ProgramPoint.{ProgramPoint}
use Rattle.flat_graph.proofs.Explored.{node_of_point}
use Rattle.flat_graph.proofs.Order.{not_before_same}
use Rattle.flat_graph.proofs.Sorted.{below, numbered_points, more_points, points_inside}

-- the point at a place, with its own place
pub point_at : (points : List FoundPoint) (k : ℕ) (p : FoundPoint) → slice_get points k ≡ Some p
    → slice_get (points_of points) k ≡ Some p.point
point_at points k p e =
    slice_get-map (λ (q : FoundPoint). q.point) points k
    ∙ ap (option_map (λ (q : FoundPoint). q.point)) e

-- there are as many nodes as points
pub nodes_count : (ordered : Ordered)
    → length (nodes_of ordered) ≡ length ordered.points.items
nodes_count ordered =
    length-map (points_of ordered.points.items) (point_node ordered.lists.items)
    ∙ length-map ordered.points.items (λ (p : FoundPoint). p.point)

-- points sorted by the order of numbering are so without their places
plain_sorted : (lists : List (List ℕ)) (points : List FoundPoint)
    → IsSortedBy (λ (s t : FoundPoint). below lists s.point t.point) points
    → IsSortedBy (below lists) (points_of points)
plain_sorted lists points h k d le lt =
    let e : FoundPoint = record { point = d; place = 0 } in
    let within : k + 1 < length points =
    subst (λ n. k + 1 < n) (length-map points (λ (p : FoundPoint). p.point)) lt in
    let here = get_or-map (λ (p : FoundPoint). p.point) points k e d (omega arith) in
    let next = get_or-map (λ (p : FoundPoint). p.point) points (k + 1) e d within in
    subst (λ s. below lists s (get_or (points_of points) k d) ≡ false) (sym next)
    (subst (λ s. below lists (get_or points (k + 1) e).point s ≡ false) (sym here)
    (h k e le within))

module _ (list : List ProgramPoint) (placed points : List FoundPoint) (A : ArePlaced list placed)
    (P : IsPermutation placed points) where
  permuted : IsPermutation list (points_of points)
  permuted =
      subst (λ l. IsPermutation l (points_of points)) A.plain
      (IsPermutation-map (λ (p : FoundPoint). p.point) placed points P)

  as_many : length placed ≡ length list
  as_many = sym (length-map placed (λ (p : FoundPoint). p.point)) ∙ ap length A.plain

  -- a point is at the place at which it was found
  stands : (k : ℕ) (p : FoundPoint) → slice_get points k ≡ Some p
      → slice_get list p.place ≡ Some p.point
  stands k p e =
      let c = contains_at placed p
      (Contains-permutation points placed p (IsPermutation-sym placed points P)
      (at_contains points k p e)) in
      ap (slice_get list) (A.places c.0 p c.1) ∙ ap (λ l. slice_get l c.0) (sym A.plain)
      ∙ point_at placed c.0 p c.1

  -- what was found at a place has a rank
  ranked : (i : ℕ) → i < length list
      → (k : ℕ) × (p : FoundPoint) × (slice_get points k ≡ Some p) × (p.place ≡ i)
  ranked i lt =
      let s = some_at placed i (omega (arith, as_many)) in
      let c = contains_at points s.0
      (Contains-permutation placed points s.0 P (at_contains placed i s.0 s.1)) in
      (c.0, s.0, c.1, A.places i s.0 s.1)

  pub points_count : length points ≡ length list
  points_count = length_permutation placed points P ∙ as_many

module _ (words : Words) (entry most : ℕ) (found : Found) (ordered : Ordered)
    (placed : List FoundPoint)
    (F : AreAllFollowed words entry most found)
    (lists : ordered.lists.items ≡ found.contexts.lists.items)
    (bodies : ordered.bodies.items ≡ found.bodies.items)
    (D : AreDistinct found.points.keys) (A : ArePlaced found.points.keys placed)
    (P : IsPermutation placed ordered.points.items)
    (sorted : IsSortedBy (λ (s t : FoundPoint).
    is_lt (flat_cmp (point_node found.contexts.lists.items s.point)
    (point_node found.contexts.lists.items t.point))) ordered.points.items) where
  abbrev known : List (List ℕ)
  known = found.contexts.lists.items

  abbrev keys : List ProgramPoint
  keys = found.points.keys

  abbrev plain : List ProgramPoint
  plain = points_of ordered.points.items

  nodes_are : nodes_of ordered ≡ point_nodes known plain
  nodes_are = ap (λ l. point_nodes l plain) lists

  -- more points than the most
  pub more_found : most < length ordered.points.items → HasMoreNodes (flows words) entry most
  more_found more =
      more_points found.contexts.numbers known keys plain F.so_far.numbered F.so_far.inside D
      (permuted keys placed ordered.points.items A P)
      (plain_sorted known ordered.points.items sorted) (flows words) entry F.place most
      F.so_far.explored
      (omega (arith, more, length-map ordered.points.items (λ (p : FoundPoint). p.point)))

  -- the points in the order of numbering, with their nodes
  pub are_ordered : length ordered.points.items ≤ most → AreOrdered words entry ordered
  are_ordered few = record {
    found = nodes_found found;
    numbering =
        subst (IsNumbering (flows words) entry) (sym nodes_are)
        (numbered_points found.contexts.numbers known keys plain F.so_far.numbered F.so_far.inside D
        (permuted keys placed ordered.points.items A P)
        (plain_sorted known ordered.points.items sorted) (flows words) entry F.place
        F.so_far.explored all_followed);
    inside =
        subst (λ l. HaveLists l plain) (sym lists)
        (points_inside found.contexts.numbers known keys plain F.so_far.numbered F.so_far.inside D
        (permuted keys placed ordered.points.items A P)
        (plain_sorted known ordered.points.items sorted));
    count = length-map keys (point_node known) ∙ sym as_many_points;
    places = λ k n p e f.
        let node : point_node known p.point ≡ n =
        same_Some (point_node known p.point) n
        (sym (node_of_point known plain k p.point (point_at ordered.points.items k p f))
        ∙ ap (λ l. slice_get l k) (sym nodes_are) ∙ e) in
        node_of_point known keys p.place p.point (stands keys placed ordered.points.items A P k p f)
        ∙ ap Some node;
    all = λ i lt.
        ranked keys placed ordered.points.items A P i
        (subst (λ n. i < n) (length-map keys (point_node known)) lt);
    bodies =
        subst (AreFoundBodies words entry (nodes_found found)) (sym bodies) F.so_far.bodies;
    body_count =
        omega (
          arith,
          ap length bodies,
          F.so_far.count,
          all_followed,
          length-map keys (point_node known),
        );
    first = F.so_far.explored.first;
  }
    where
      as_many_points : length ordered.points.items ≡ length keys
      as_many_points = points_count keys placed ordered.points.items A P

      all_followed : length keys ≤ F.place
      all_followed =
          ⊎_elim (λ none. none) (λ more. absurd (omega (arith, more, as_many_points, few))) F.ended

module _ (words : Words) (entry : ℕ) (ordered : Ordered) (O : AreOrdered words entry ordered) where
  abbrev nodes : List FlatNode
  nodes = nodes_of ordered

  abbrev points : List FoundPoint
  points = ordered.points.items

  abbrev node_at : FoundPoint → FlatNode
  node_at p = point_node ordered.lists.items p.point

  -- the node at a point's number
  pub stands_at : (k : ℕ) (p : FoundPoint) → slice_get points k ≡ Some p
      → slice_get nodes k ≡ Some (node_at p)
  stands_at k p e =
      node_of_point ordered.lists.items (points_of points) k p.point (point_at points k p e)

  found_at : (k : ℕ) (p : FoundPoint) → slice_get points k ≡ Some p
      → slice_get O.found p.place ≡ Some (node_at p)
  found_at k p e = O.places k (node_at p) p (stands_at k p e) e

  -- where a point was found is one of as many places
  pub place_within : (k : ℕ) (p : FoundPoint) → slice_get points k ≡ Some p
      → p.place < length points
  place_within k p e =
      omega (arith, O.count, slice_get_within O.found p.place (node_at p) (found_at k p e))

  -- and no other point was found there
  pub own_places : HaveOwnPlaces points
  own_places i j p q e f same =
      ⊎_elim
      (λ here. here)
      (λ o. ⊎_elim
      (λ lt. absurd (apart i j p q e f alike lt))
      (λ gt. absurd (apart j i q p f e (sym alike) gt))
      o)
      (cases_order i j)
    where
      alike : node_at p ≡ node_at q
      alike =
          same_Some (node_at p) (node_at q)
          (sym (found_at i p e) ∙ ap (slice_get O.found) same ∙ found_at j q f)

      apart : (i j : ℕ) (p q : FoundPoint) → slice_get points i ≡ Some p
          → slice_get points j ≡ Some q → node_at p ≡ node_at q → i < j → ⊥
      apart i j p q e f alike lt =
          not_before_same (node_at p) (node_at q) alike
          (subst (λ n. IsNumberedBefore n (node_at q))
          (get_or_from_slice_get nodes i (node_at p) (node_at p) (stands_at i p e))
          (subst (λ n. IsNumberedBefore (get_or nodes i (node_at p)) n)
          (get_or_from_slice_get nodes j (node_at q) (node_at p) (stands_at j q f))
          (O.numbering.ordered i j (node_at p) lt
          (slice_get_within nodes j (node_at q) (stands_at j q f)))))

  module _ (ranks : List ℕ) (R : AreRanks points ranks) where
    abbrev rank : ℕ → ℕ
    rank v = slice_index_or ranks v 0

    -- the node that was found at a place has the number that is its rank
    pub at_rank : (i : ℕ) (n : FlatNode) → slice_get O.found i ≡ Some n
        → slice_get nodes (rank i) ≡ Some n
    at_rank i n e =
        let a = O.all i (slice_get_within O.found i n e) in
        let k = a.0 in
        let p = a.1 in
        let number : rank i ≡ k =
        ap rank (sym a.3) ∙ get_or_from_slice_get ranks p.place k 0 (R k p a.2) in
        ap (slice_get nodes) number ∙ stands_at k p a.2 ∙ sym (found_at k p a.2)
        ∙ ap (slice_get O.found) a.3 ∙ e

    -- so do the successors
    pub numbers_ranked : (numbers : List ℕ) (some : List FlatNode)
        → AreNumbers O.found numbers some → AreNumbers nodes (map rank numbers) some
    numbers_ranked [] [] e = refl
    numbers_ranked [] (m ∷ ms) e = cc
    numbers_ranked (v ∷ vs) [] e = cc
    numbers_ranked (v ∷ vs) (m ∷ ms) e =
        let head : slice_get O.found v ≡ Some m = cc in
        let rest : map (slice_get O.found) vs ≡ map Some ms = cc in
        let first = at_rank v m head in
        let others = numbers_ranked vs ms rest in
        λ i. first i ∷ others i

    pub entry_ranked : IsEntryAt entry ordered (rank 0)
    entry_ranked = at_rank 0 _ O.first

  -- the body that was found for a node, where it has one
  pub body_found : (k : ℕ) (n : FlatNode) (p : FoundPoint) (b : Option NodeBody)
      → slice_get nodes k ≡ Some n → slice_get points k ≡ Some p
      → slice_get ordered.bodies.items p.place ≡ Some b → IsFoundBody words entry O.found n b
  body_found k n p b e f g = O.bodies p.place n b (O.places k n p e f) g

  pub body_within : (k : ℕ) (p : FoundPoint) → slice_get points k ≡ Some p
      → p.place < length ordered.bodies.items
  body_within k p e = omega (arith, O.count, O.body_count, place_within k p e)

-- one more point has its rank at its place
pub ranks_more : (points : List FoundPoint) (old : List ℕ) (r : ℕ) (p : FoundPoint)
    → HaveOwnPlaces points → slice_get points r ≡ Some p → p.place < length old
    → ((k : ℕ) (q : FoundPoint) → k < r → slice_get points k ≡ Some q
    → slice_get old q.place ≡ Some k)
    → (k : ℕ) (q : FoundPoint) → k < r + 1 → slice_get points k ≡ Some q
    → slice_get (set old p.place r) q.place ≡ Some k
ranks_more points old r p own at within ranked k q lt e =
    ⊎_elim
    (λ here.
    let same : q.place ≡ p.place =
    ap (λ (x : FoundPoint). x.place) (same_Some q p (sym e ∙ ap (slice_get points) here ∙ at)) in
    ap (slice_get (set old p.place r)) same
    ∙ slice_get-get_or (set old p.place r) p.place r
    (subst (λ n. p.place < n) (sym (length-set old p.place r)) within)
    ∙ ap Some (get_or-set_same old p.place r r within ∙ sym here))
    (λ other.
    let before = ranked k q (omega arith) e in
    let q_within = slice_get_within old q.place k before in
    slice_get-get_or (set old p.place r) q.place k
    (subst (λ n. q.place < n) (sym (length-set old p.place r)) q_within)
    ∙ ap Some
    (get_or-set_other old p.place q.place r k (λ same. other (own k r q p e at same))
    ∙ get_or_from_slice_get old q.place k k before))
    (cases_eq k r)

-- one more point with its place
pub placed_more : (points : List ProgramPoint) (old : List FoundPoint) (k : ℕ) (d : ProgramPoint)
    → k < length points → points_of old ≡ take k points
    → points_of (old ++ record { point = get_or points k d; place = k } ∷ []) ≡ take (k + 1) points
placed_more points old k d lt plain =
    map-append (λ (p : FoundPoint). p.point) old
    (record { point = get_or points k d; place = k } ∷ [])
    ∙ ap (λ l. l ++ get_or points k d ∷ []) plain ∙ sym (take_more points k d lt)

-- each has its place
pub places_more : (old : List FoundPoint) (s : ProgramPoint) (k : ℕ) → length old ≡ k
    → ((j : ℕ) (p : FoundPoint) → slice_get old j ≡ Some p → p.place ≡ j) → (j : ℕ)
    (p : FoundPoint) → slice_get (old ++ record { point = s; place = k } ∷ []) j ≡ Some p
    → p.place ≡ j
places_more old s k count places j p e =
    ⊎_elim
    (λ before. places j p before)
    (λ here. sym (ap (λ (x : FoundPoint). x.place) here.1) ∙ sym count ∙ sym here.0)
    (at_more old (record { point = s; place = k }) j p e)
