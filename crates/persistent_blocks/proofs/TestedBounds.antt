-- Graphs and least potentials, by tests that compute.
use Rattle.std.proofs.Common.{◌≡◌, ℕ, zero, suc, ◌+◌, ◌-◌, ◌*◌, ◌<◌, ◌≤◌, ◌==◌, ◌&&◌, ◌||◌, not, Bool}
use Rattle.std.proofs.Common.{false, nat_lt, nat_le, List, [], ◌∷◌, Option, Some, None, is_some}
use Rattle.std.proofs.Common.{Contains, IsTrue, refl, sym, ap, ◌∙◌, inl, inr, ⊎_elim}
use Rattle.std.proofs.Common.{arith, eq-eqb, eqb-true, ltb-true, leb-true, mul-le-mul_left}
use Rattle.std.proofs.lemmas.Bool.{and_parts, and_from, or_cases, false≢true, not-true}
use Rattle.crpd_base.proofs.Bools.{each, each_says, needs, needed}
use Rattle.crpd_base.proofs.Elements.{at_head, at_rest}
use Rattle.flat_graph.specs.Graph.{Graph, Edge, IsWalk, IsGraph}
use Rattle.loop_regions.specs.Nest.{Nest, IsNested, IsBackEdge, Leaves, Item, Node, Loop, IsItem}
use Rattle.loop_regions.specs.Potentials.{Costs, Potentials, item_potential, MeetsAt, Meets}
use Rattle.loop_regions.proofs.Potential.{item_law}
use Rattle.exec_bound.specs.Least.{AreLeastPotentials}
use Rattle.exec_bound.proofs.Agree.{Agree}
use Rattle.persistent_blocks.proofs.Computed.{last_with, with_found, with_none}
use Rattle.persistent_blocks.proofs.Tests.{each_edge, each_edge_says}

-- ---- graphs

-- whether a number is in a list
abbrev pub listed : ℕ → List ℕ → Bool
listed v [] = false
listed v (x ∷ xs) = (x == v) || listed v xs

listed_says : (v : ℕ) (xs : List ℕ) → IsTrue (listed v xs) → Contains xs v
listed_says v [] t = absurd (false≢true t)
listed_says v (x ∷ xs) t = ⊎_elim
    (λ here. at_head xs v x (eqb-true x v here))
    (λ later. at_rest xs v x (listed_says v xs later))
    (or_cases (x == v) (listed v xs) t)

-- whether a node is the first one, or follows one at an earlier place
abbrev pub follows : Graph → (ℕ → ℕ) → (ℕ → ℕ) → ℕ → Bool
follows g place before y =
    (y == g.first)
    || (nat_lt (before y) g.size
    && (listed y (g.next (before y)) && nat_lt (place (before y)) (place y)))

-- each node follows one at an earlier place, and edges lead to nodes
module _ (g : Graph) (place before : ℕ → ℕ) (first : IsTrue (nat_lt g.first g.size))
    (each_follows : IsTrue (each g.size (follows g place before)))
    (ends : IsTrue (each_edge g (λ u v. nat_lt v g.size))) where
  walk_to : (k y : ℕ) → place y < k → y < g.size → (walk : List ℕ) × IsWalk g (y ∷ walk)
  walk_to zero y l lt = absurd (omega (arith, l))
  walk_to (suc k) y l lt =
      ⊎_elim
      (λ here. ([], eqb-true y g.first here))
      (λ later.
      let node = and_parts (nat_lt (before y) g.size) _ later in
      let next = and_parts (listed y (g.next (before y))) _ node.1 in
      let below = ltb-true (before y) g.size node.0 in
      let earlier = ltb-true (place (before y)) (place y) next.1 in
      let walk = walk_to k (before y) (omega (arith, earlier, l)) below in
      (before y ∷ walk.0, ((below, listed_says y (g.next (before y)) next.0), walk.1)))
      (or_cases (y == g.first) _ (each_says g.size (follows g place before) each_follows y lt))

  pub is_graph : IsGraph g
  is_graph = record {
    first = ltb-true g.first g.size first;
    edges = λ u v e. ltb-true v g.size (each_edge_says g (λ w z. nat_lt z g.size) ends u v e);
    reached = λ y lt. walk_to (suc (place y)) y (omega arith) lt;
  }

-- ---- costs that agree

pub costs_agree : (g : Graph) (c d : Costs)
    → IsTrue (each_edge g (λ u v. c.edge u v == d.edge u v))
    → IsTrue (each_edge g (λ u v. c.price u v == d.price u v))
    → ((u : ℕ) → c.answers u ≡ d.answers u) → IsTrue (each g.size (λ u. c.end u == d.end u))
    → Agree g c d
costs_agree g c d edges prices answers ends = record {
  edge = λ u v e. eqb-true (c.edge u v) (d.edge u v)
      (each_edge_says g (λ w z. c.edge w z == d.edge w z) edges u v e);
  price = λ u v e. eqb-true (c.price u v) (d.price u v)
      (each_edge_says g (λ w z. c.price w z == d.price w z) prices u v e);
  answers = answers;
  end = λ u lt. eqb-true (c.end u) (d.end u) (each_says g.size (λ w. c.end w == d.end w) ends u lt);
}

-- ---- potentials

-- whether the edge leads back to the head of a region
abbrev pub goes_back : Nest → ℕ → ℕ → Bool
goes_back n u v = is_some (last_with (λ r. n.holds r u && (v == n.head r)) n.size)

-- whether it leaves region r
abbrev pub leaves : Nest → ℕ → ℕ → ℕ → Bool
leaves n u v r = n.holds r u && not (n.holds r v)

-- whether it leaves any
abbrev pub leaves_some : Nest → ℕ → ℕ → Bool
leaves_some n u v = is_some (last_with (leaves n u v) n.size)

-- the potential of what an edge to v arrives at
abbrev pub value_of : Potentials → ℕ → Option ℕ → ℕ
value_of q v None = q.node v
value_of q v (Some r) = q.loop r

abbrev pub value_at : Nest → Potentials → ℕ → ℕ
value_at n q v = value_of q v (last_with (λ r. v == n.head r) n.size)

module _ (n : Nest) (heads : (r s : ℕ) → r < n.size → s < n.size → n.head r ≡ n.head s → r ≡ s)
    (q : Potentials) where
  value_is : (v : ℕ) (i : Item) (o : Option ℕ) → last_with (λ r. v == n.head r) n.size ≡ o
      → IsItem n v i → item_potential q i ≡ value_of q v o
  value_is v (Node y) None e is = ap q.node is.0
  value_is v (Node y) (Some r) e is =
      let at = with_found (λ z. v == n.head z) n.size r e in
      absurd (is.1 r at.0 (eqb-true v (n.head r) at.1))
  value_is v (Loop r) None e is =
      absurd (false≢true (sym (with_none (λ z. v == n.head z) n.size r e is.0)
      ∙ eq-eqb v (n.head r) is.1))
  value_is v (Loop r) (Some s) e is =
      let at = with_found (λ z. v == n.head z) n.size s e in
      ap q.loop (heads r s is.0 at.0 (sym is.1 ∙ eqb-true v (n.head s) at.1))

  pub item_value : (v : ℕ) (i : Item) → IsItem n v i → item_potential q i ≡ value_at n q v
  item_value v i is = value_is v i (last_with (λ r. v == n.head r) n.size) refl is

not_back : (n : Nest) (u v : ℕ) → (IsBackEdge n u v → ⊥) → IsTrue (not (goes_back n u v))
not_back n u v none = by (last_with (λ r. n.holds r u && (v == n.head r)) n.size) refl
  where
    by : (o : Option ℕ) → last_with (λ r. n.holds r u && (v == n.head r)) n.size ≡ o
        → IsTrue (not (is_some o))
    by None e = refl
    by (Some r) e =
        let at = with_found (λ z. n.holds z u && (v == n.head z)) n.size r e in
        let parts = and_parts (n.holds r u) (v == n.head r) at.1 in
        absurd (none (r, at.0, parts.0, eqb-true v (n.head r) parts.1))

not_left : (n : Nest) (u v : ℕ) → ((r : ℕ) → Leaves n u v r → ⊥)
    → IsTrue (not (leaves_some n u v))
not_left n u v none = by (last_with (leaves n u v) n.size) refl
  where
    by : (o : Option ℕ) → last_with (leaves n u v) n.size ≡ o → IsTrue (not (is_some o))
    by None e = refl
    by (Some r) e =
        let at = with_found (leaves n u v) n.size r e in
        let parts = and_parts (n.holds r u) (not (n.holds r v)) at.1 in
        absurd (none r (at.0, parts.0, not-true (n.holds r v) parts.1))

module _ (g : Graph) (n : Nest) (c : Costs) (q : Potentials) where
  abbrev pub covers_edge : ℕ → ℕ → Bool
  covers_edge u v = nat_le (c.edge u v) (q.node u)

  abbrev pub covers_end : ℕ → Bool
  covers_end u = needs (c.answers u) (nat_le (c.end u) (q.node u))

  abbrev pub covers_inside : ℕ → ℕ → Bool
  covers_inside u v =
      needs (not (goes_back n u v))
      (needs (not (leaves_some n u v))
      (nat_le (c.edge u v + c.price u v + value_at n q v) (q.node u)))

  abbrev pub covers_exit : ℕ → ℕ → ℕ → Bool
  covers_exit u v r =
      needs (leaves n u v r)
      (nat_le (n.bound r * q.node (n.head r) + c.price u v + value_at n q v) (q.loop r))

  abbrev pub covers_turns : ℕ → Bool
  covers_turns r = nat_le (n.bound r * q.node (n.head r)) (q.loop r)

  module _ (heads : (r s : ℕ) → r < n.size → s < n.size → n.head r ≡ n.head s → r ≡ s)
      (edges : IsTrue (each_edge g covers_edge)) (ends : IsTrue (each g.size covers_end))
      (inside : IsTrue (each_edge g covers_inside))
      (exits : IsTrue (each_edge g (λ u v. each n.size (covers_exit u v))))
      (turns : IsTrue (each n.size covers_turns)) where
    meets_at : (u : ℕ) → u < g.size → MeetsAt g n c q u
    meets_at u lt = record {
      edge = λ v e. leb-true (c.edge u v) (q.node u) (each_edge_says g covers_edge edges u v e);
      end = λ t. leb-true (c.end u) (q.node u)
          (needed (c.answers u) (nat_le (c.end u) (q.node u)) (each_says g.size covers_end ends u lt) t);
      inside = λ v i e ahead stays is.
          let left = needed (not (goes_back n u v)) _ (each_edge_says g covers_inside inside u v e)
          (not_back n u v ahead) in
          let le = leb-true (c.edge u v + c.price u v + value_at n q v) (q.node u)
          (needed (not (leaves_some n u v)) _ left (not_left n u v stays)) in
          let item = item_value n heads q v i is in
          omega (arith, le, item);
      exit = λ v r i e ahead last is.
          let test = each_says n.size (covers_exit u v)
          (each_edge_says g (λ w z. each n.size (covers_exit w z)) exits u v e) r last.0.0 in
          let le = leb-true (n.bound r * q.node (n.head r) + c.price u v + value_at n q v) (q.loop r)
          (needed (leaves n u v r) _ test
          (and_from (n.holds r u) (not (n.holds r v)) last.0.1 (ap not last.0.2))) in
          let item = item_value n heads q v i is in
          omega (arith, le, item);
    }

    pub tested : Meets g n c q
    tested = record {
      nodes = meets_at;
      loops = λ r lt. leb-true (n.bound r * q.node (n.head r)) (q.loop r)
          (each_says n.size covers_turns turns r lt);
    }

-- ---- least potentials: each node and each region has an inequality that is exact, and what it
-- depends on comes later

-- whether a test passes for some element of a list
abbrev pub some_of : (ℕ → Bool) → List ℕ → Bool
some_of test [] = false
some_of test (x ∷ xs) = test x || some_of test xs

some_of_says : (test : ℕ → Bool) (xs : List ℕ) → IsTrue (some_of test xs)
    → (v : ℕ) × Contains xs v × IsTrue (test v)
some_of_says test [] t = absurd (false≢true t)
some_of_says test (x ∷ xs) t = ⊎_elim
    (λ here. (x, at_head xs x x refl, here))
    (λ later. let rest = some_of_says test xs later in (rest.0, at_rest xs rest.0 x rest.1, rest.2))
    (or_cases (test x) (some_of test xs) t)

-- whether an edge goes on to what it arrives at: it is no back edge and leaves no region
abbrev pub goes_on : Nest → ℕ → ℕ → Bool
goes_on n u v = not (goes_back n u v) && not (leaves_some n u v)

-- whether it leaves region r last
abbrev pub leaves_last : Nest → ℕ → ℕ → ℕ → Bool
leaves_last n u v r =
    not (goes_back n u v)
    && (leaves n u v r && each n.size (λ s. needs (leaves n u v s) (n.holds r (n.head s))))

-- nodes at later places have lower ranks, and a region a little more than its head
abbrev pub node_rank : Graph → (ℕ → ℕ) → ℕ → ℕ
node_rank g place u = 2 * (g.size - place u)

abbrev pub loop_rank : Graph → Nest → (ℕ → ℕ) → ℕ → ℕ
loop_rank g n place r = node_rank g place (n.head r) + 1

abbrev pub rank_of : Graph → Nest → (ℕ → ℕ) → ℕ → Option ℕ → ℕ
rank_of g n place v None = node_rank g place v
rank_of g n place v (Some r) = loop_rank g n place r

abbrev pub rank_at : Graph → Nest → (ℕ → ℕ) → ℕ → ℕ
rank_at g n place v = rank_of g n place v (last_with (λ r. v == n.head r) n.size)

-- the tests, of costs and potentials
module _ (g : Graph) (n : Nest) (c : Costs) (place : ℕ → ℕ) (p : Potentials) where
  abbrev pub exact_edge : ℕ → ℕ → Bool
  exact_edge u v =
      nat_le (p.node u) (c.edge u v)
      || (goes_on n u v && (nat_lt (rank_at g n place v) (node_rank g place u)
      && nat_le (p.node u) (c.edge u v + c.price u v + value_at n p v)))

  abbrev pub exact_node : ℕ → Bool
  exact_node u =
      (c.answers u && nat_le (p.node u) (c.end u)) || some_of (exact_edge u) (g.next u)

  abbrev pub exact_exit : ℕ → ℕ → ℕ → Bool
  exact_exit r u v =
      leaves_last n u v r && (nat_lt (rank_at g n place v) (loop_rank g n place r)
      && nat_le (p.loop r) (n.bound r * p.node (n.head r) + c.price u v + value_at n p v))

  abbrev pub exact_loop : ℕ → Bool
  exact_loop r = is_some (last_with (λ u. some_of (exact_exit r u) (g.next u)) g.size)

-- what the tests say of other potentials that satisfy the inequalities
module _ (g : Graph) (n : Nest) (c : Costs) (q : Potentials) (N : IsNested g n)
    (M : Meets g n c q) where
  is_ahead : (u v : ℕ) → IsTrue (not (goes_back n u v)) → IsBackEdge n u v → ⊥
  is_ahead u v t b = by (last_with (λ r. n.holds r u && (v == n.head r)) n.size) refl t
    where
      by : (o : Option ℕ) → last_with (λ r. n.holds r u && (v == n.head r)) n.size ≡ o
          → IsTrue (not (is_some o)) → ⊥
      by None e t =
          false≢true (sym (with_none (λ r. n.holds r u && (v == n.head r)) n.size b.0 e b.1)
          ∙ and_from (n.holds b.0 u) (v == n.head b.0) b.2 (eq-eqb v (n.head b.0) b.3))
      by (Some r) e t = false≢true t

  is_inside : (u v : ℕ) → IsTrue (not (leaves_some n u v)) → (r : ℕ) → Leaves n u v r → ⊥
  is_inside u v t r l = by (last_with (leaves n u v) n.size) refl t
    where
      by : (o : Option ℕ) → last_with (leaves n u v) n.size ≡ o → IsTrue (not (is_some o)) → ⊥
      by None e t =
          false≢true (sym (with_none (leaves n u v) n.size r e l.0)
          ∙ and_from (n.holds r u) (not (n.holds r v)) l.1 (ap not l.2))
      by (Some s) e t = false≢true t

  -- the inequality of an edge that goes on
  along : (u v : ℕ) → Edge g u v → IsTrue (goes_on n u v)
      → c.edge u v + c.price u v + value_at n q v ≤ q.node u
  along u v edge t =
      let parts = and_parts (not (goes_back n u v)) (not (leaves_some n u v)) t in
      let item = item_law n v in
      let le = (M.nodes u edge.0).inside v item.0 edge (is_ahead u v parts.0)
      (is_inside u v parts.1) item.1 in
      let value = item_value n N.one_head q v item.0 item.1 in
      omega (arith, le, value)

  -- and of one that leaves a region
  out : (u v r : ℕ) → r < n.size → Edge g u v → IsTrue (leaves_last n u v r)
      → n.bound r * q.node (n.head r) + c.price u v + value_at n q v ≤ q.loop r
  out u v r lt edge t =
      let parts = and_parts (not (goes_back n u v)) _ t in
      let left = and_parts (leaves n u v r) _ parts.1 in
      let from = and_parts (n.holds r u) (not (n.holds r v)) left.0 in
      let item = item_law n v in
      let le = (M.nodes u edge.0).exit v r item.0 edge (is_ahead u v parts.0) (
        (lt, from.0, not-true (n.holds r v) from.1),
        λ s l. needed (leaves n u v s) (n.holds r (n.head s))
            (each_says n.size (λ z. needs (leaves n u v z) (n.holds r (n.head z))) left.1 s l.0)
            (and_from (n.holds s u) (not (n.holds s v)) l.1 (ap not l.2)),
      )
      item.1 in
      let value = item_value n N.one_head q v item.0 item.1 in
      omega (arith, le, value)

  module _ (place : ℕ → ℕ) (p : Potentials) (G : IsGraph g) (nodes : IsTrue (each g.size (exact_node g n c place p)))
      (loops : IsTrue (each n.size (exact_loop g n c place p))) where
    -- those of rank below k are at least these
    pub record AreBelow (k : ℕ) : Type 0 where
      pub node : (u : ℕ) → u < g.size → node_rank g place u < k → p.node u ≤ q.node u
      pub loop : (r : ℕ) → r < n.size → loop_rank g n place r < k → p.loop r ≤ q.loop r

    value_le : (k v : ℕ) (o : Option ℕ) → AreBelow k → v < g.size
        → last_with (λ r. v == n.head r) n.size ≡ o → rank_of g n place v o < k
        → value_of p v o ≤ value_of q v o
    value_le k v None B lt e l = B.node v lt l
    value_le k v (Some r) B lt e l = B.loop r (with_found (λ z. v == n.head z) n.size r e).0 l

    node_le : (k u : ℕ) → AreBelow k → u < g.size → node_rank g place u < suc k → p.node u ≤ q.node u
    node_le k u B lt l =
        elim (or_cases (c.answers u && nat_le (p.node u) (c.end u))
        (some_of (exact_edge g n c place p u) (g.next u))
        (each_says g.size (exact_node g n c place p) nodes u lt)) [
          | inl ends ↦
              let parts = and_parts (c.answers u) (nat_le (p.node u) (c.end u)) ends in
              let here = leb-true (p.node u) (c.end u) parts.1 in
              let le = (M.nodes u lt).end parts.0 in
              omega (arith, here, le)
          | inr some ↦
              let v = some_of_says (exact_edge g n c place p u) (g.next u) some in
              edge_le v.0 (lt, v.1) v.2
        ]
      where
        edge_le : (v : ℕ) → Edge g u v → IsTrue (exact_edge g n c place p u v) → p.node u ≤ q.node u
        edge_le v edge t =
            elim (or_cases (nat_le (p.node u) (c.edge u v)) _ t) [
              | inl one ↦
                  let here = leb-true (p.node u) (c.edge u v) one in
                  let le = (M.nodes u lt).edge v edge in
                  omega (arith, here, le)
              | inr on ↦
                  let parts = and_parts (goes_on n u v) _ on in
                  let both = and_parts (nat_lt (rank_at g n place v) (node_rank g place u)) _ parts.1 in
                  let rank = ltb-true (rank_at g n place v) (node_rank g place u) both.0 in
                  let here = leb-true (p.node u) (c.edge u v + c.price u v + value_at n p v) both.1 in
                  let le = along u v edge parts.0 in
                  let value : value_at n p v ≤ value_at n q v =
                  value_le k v (last_with (λ r. v == n.head r) n.size) B (G.edges u v edge) refl
                  (omega (arith, rank, l)) in
                  omega (arith, here, le, value)
            ]

    loop_le : (k r : ℕ) → AreBelow k → r < n.size → loop_rank g n place r < suc k → p.loop r ≤ q.loop r
    loop_le k r B lt l =
        by (last_with (λ u. some_of (exact_exit g n c place p r u) (g.next u)) g.size) refl
        (each_says n.size (exact_loop g n c place p) loops r lt)
      where
        exit_le : (u v : ℕ) → Edge g u v → IsTrue (exact_exit g n c place p r u v) → p.loop r ≤ q.loop r
        exit_le u v edge t =
            let parts = and_parts (leaves_last n u v r) _ t in
            let both = and_parts (nat_lt (rank_at g n place v) (loop_rank g n place r)) _ parts.1 in
            let rank = ltb-true (rank_at g n place v) (loop_rank g n place r) both.0 in
            let here = leb-true (p.loop r)
            (n.bound r * p.node (n.head r) + c.price u v + value_at n p v) both.1 in
            let le = out u v r lt edge parts.0 in
            let value : value_at n p v ≤ value_at n q v =
            value_le k v (last_with (λ z. v == n.head z) n.size) B (G.edges u v edge) refl
            (omega (arith, rank, l)) in
            let head = B.node (n.head r) (N.holds_nodes r (n.head r) lt (N.holds_head r lt))
            (omega (arith, l)) in
            let turns = mul-le-mul_left (n.bound r) head in
            omega (arith, here, le, value, turns)

        by : (o : Option ℕ) → last_with (λ u. some_of (exact_exit g n c place p r u) (g.next u)) g.size ≡ o
            → IsTrue (is_some o) → p.loop r ≤ q.loop r
        by None e t = absurd (false≢true t)
        by (Some u) e t =
            let at = with_found (λ w. some_of (exact_exit g n c place p r w) (g.next w)) g.size u e in
            let v = some_of_says (exact_exit g n c place p r u) (g.next u) at.1 in
            exit_le u v.0 (at.0, v.1) v.2

    all_below : (k : ℕ) → AreBelow k
    all_below zero = record {
      node = λ u lt l. absurd (omega (arith, l));
      loop = λ r lt l. absurd (omega (arith, l));
    }
    all_below (suc k) =
        let before = all_below k in
        record {
          node = λ u lt l. node_le k u before lt l;
          loop = λ r lt l. loop_le k r before lt l;
        }

    pub at_least_nodes : (u : ℕ) → u < g.size → p.node u ≤ q.node u
    at_least_nodes u lt = (all_below (suc (node_rank g place u))).node u lt (omega arith)

    pub at_least_loops : (r : ℕ) → r < n.size → p.loop r ≤ q.loop r
    at_least_loops r lt = (all_below (suc (loop_rank g n place r))).loop r lt (omega arith)

pub tested_least : (g : Graph) (n : Nest) (c : Costs) (place : ℕ → ℕ) (p : Potentials) → IsGraph g
    → IsNested g n → Meets g n c p → IsTrue (each g.size (exact_node g n c place p))
    → IsTrue (each n.size (exact_loop g n c place p)) → AreLeastPotentials g n c p
tested_least g n c place p G N M nodes loops = record {
  meets = M;
  nodes = λ q u other lt. at_least_nodes g n c q N other place p G nodes loops u lt;
  loops = λ q r other lt. at_least_loops g n c q N other place p G nodes loops r lt;
}
