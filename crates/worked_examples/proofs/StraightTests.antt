-- Tests which show that a straight-line task has its graph, and satisfies the checker's clauses.
use Rattle.std.proofs.Common.{◌≡◌, ℕ, zero, suc, ◌+◌, ◌<◌, ◌≤◌, Bool, true, false, List, [], ◌∷◌}
use Rattle.std.proofs.Common.{Option, Some, None, Contains, IsTrue, refl, ◌∙◌, ap, subst, arith}
use Rattle.std.proofs.Common.{length, ◌==◌, ◌&&◌, nat_lt, nat_le, slice_index_or, get_or}
use Rattle.std.proofs.Common.{option_and_then}
use Rattle.std.proofs.lemmas.Bool.{eqb-true, eq-eqb, ltb-true, leb-true, and_parts}
use Rattle.std.proofs.lemmas.Bool.{false≢true}
use Rattle.crpd_base.specs.declared.data.Platform.{Platform}
use Rattle.crpd_base.specs.declared.data.NodeState.{NodeState}
use Rattle.crpd_base.specs.declared.data.TaskPart.{TaskPart}
use Rattle.crpd_base.specs.Sets.{has as has_set}
use Rattle.crpd_base.proofs.Bools.{each, each_says, needs, needed}
use Rattle.rv_decode.specs.declared.Ins.{Ins}
use Rattle.rv_decode.specs.declared.Ins.TheVariants.{Ecall}
use Rattle.rv_decode.specs.Flow.{Words, flows}
use Rattle.rv_decode.specs.Table.{ins_of_word}
use Rattle.icache.specs.Accesses.{accesses}
use Rattle.flat_graph.specs.FlatGraph.{successors, error_of}
use Rattle.flat_graph.specs.Graph.{Edge, IsWalk}
use Rattle.flat_graph.specs.EdgeCost.{edge_cost, end_cost}
use Rattle.loop_regions.specs.TaskGraph.{TaskGraph, node_code_of, answering}
use Rattle.evict_sets.specs.ListedPart.{listed_of}
use Rattle.cert_check.specs.ListedPotentials.{potentials_of}
use Rattle.cert_check.specs.PotentialClauses.{edge_costs}
use Rattle.cert_check.specs.declared.outcome.Clause.{Clause}
use Rattle.cert_check.specs.declared.outcome.Clause.TheVariants.{Leaders}
use Rattle.cert_check.specs.JudgeInput.{IsGraphOf}
use Rattle.cert_check.specs.Verdict.{GraphHolds}
use Rattle.cert_check.proofs.Clauses.{GraphMeets, clauses_of}
use Rattle.worked_examples.specs.StraightCode.{plan, to_one, listed_graph, first_alone, named}
use Rattle.worked_examples.proofs.StraightCode as law

-- the straight-line code of a task: its nodes' addresses, instructions and successors, and the
-- nodes before each, the last one first
pub record Way : Type 0 where
  pub addresses : List ℕ
  pub instructions : List Ins
  pub successors : List (Option ℕ)
  pub walks : List (List ℕ)

abbrev pub size : Way → ℕ
size w = length w.addresses

abbrev pub next : Way → ℕ → Option ℕ
next w y = slice_index_or w.successors y None

abbrev pub address : Way → ℕ → ℕ
address w y = slice_index_or w.addresses y 0

abbrev pub ins : Way → ℕ → Ins
ins w y = slice_index_or w.instructions y Ecall

abbrev pub before : Way → ℕ → List ℕ
before w y = slice_index_or w.walks y []

abbrev pub graph : Way → TaskGraph
graph w = listed_graph w.addresses w.instructions w.successors

-- two lists are equal
abbrev pub same : List ℕ → List ℕ → Bool
same [] [] = true
same [] (y ∷ ys) = false
same (x ∷ xs) [] = false
same (x ∷ xs) (y ∷ ys) = (x == y) && same xs ys

pub same_says : (xs ys : List ℕ) → IsTrue (same xs ys) → xs ≡ ys
same_says [] [] t = refl
same_says [] (y ∷ ys) t = absurd (false≢true t)
same_says (x ∷ xs) [] t = absurd (false≢true t)
same_says (x ∷ xs) (y ∷ ys) t =
    let parts = and_parts (x == y) (same xs ys) t in
    let head = eqb-true x y parts.0 in
    let tail = same_says xs ys parts.1 in
    ap (λ z. z ∷ xs) head ∙ ap (λ zs. y ∷ zs) tail

-- a test at the successor, if there is one
abbrev pub at_next : (ℕ → Bool) → Option ℕ → Bool
at_next test None = true
at_next test (Some v) = test v

pub at_next_says : (test : ℕ → Bool) (to : Option ℕ) (v : ℕ) → IsTrue (at_next test to)
    → Contains (to_one to) v → IsTrue (test v)
at_next_says test None v t (k, l, e) = absurd (omega (arith, l))
at_next_says test (Some x) v t (zero, l, e) = subst (λ z. IsTrue (test z)) e t
at_next_says test (Some x) v t (suc k, l, e) = absurd (omega (arith, l))

abbrev pub is_next : Option ℕ → ℕ → Bool
is_next None y = false
is_next (Some v) y = v == y

pub is_next_says : (to : Option ℕ) (y : ℕ) → IsTrue (is_next to y) → Contains (to_one to) y
is_next_says None y t = absurd (false≢true t)
is_next_says (Some v) y t = (0, omega arith, eqb-true v y t)

-- these nodes, the last one first, lead from node 0 to node y
abbrev pub lead_to : Way → ℕ → List ℕ → Bool
lead_to w y [] = y == 0
lead_to w y (u ∷ walk) = nat_lt u (size w) && (is_next (next w u) y && lead_to w u walk)

pub walk_of : (w : Way) (y : ℕ) (walk : List ℕ) → IsTrue (lead_to w y walk)
    → IsWalk (graph w).graph (y ∷ walk)
walk_of w y [] t = eqb-true y 0 t
walk_of w y (u ∷ walk) t =
    let a = and_parts (nat_lt u (size w)) (is_next (next w u) y && lead_to w u walk) t in
    let b = and_parts (is_next (next w u) y) (lead_to w u walk) a.1 in
    ((ltb-true u (size w) a.0, is_next_says (next w u) y b.0), walk_of w u walk b.1)

-- the walks lead to the nodes, and continue along the edges
pub record IsWay (w : Way) : Type 0 where
  pub some : 0 < size w
  pub start : before w 0 ≡ []
  pub walks : IsTrue (each (size w) (λ y. lead_to w y (before w y)))
  pub steps : IsTrue
      (each (size w)
      (λ u. at_next (λ v. nat_lt v (size w) && same (before w v) (u ∷ before w u)) (next w u)))

pub line : (w : Way) → IsWay w → law.IsLine (graph w).graph (before w)
line w way =
    record {
      some = way.some;
      start = way.start;
      walks = λ y l.
          walk_of w y (before w y)
          (each_says (size w) (λ z. lead_to w z (before w z)) way.walks y l);
      step = λ u v e.
          let t = each_says (size w)
          (λ z. at_next (λ x. nat_lt x (size w) && same (before w x) (z ∷ before w z)) (next w z))
          way.steps u e.0 in
          let parts = and_parts (nat_lt v (size w)) (same (before w v) (u ∷ before w u))
          (at_next_says (λ x. nat_lt x (size w) && same (before w x) (u ∷ before w u))
          (next w u) v t e.1) in
          (ltb-true v (size w) parts.0, same_says (before w v) (u ∷ before w u) parts.1);
      one_next = λ u v z a b. law.same_next (size w) (next w) u v z a b;
    }

-- the code at a node
pub record IsAt (words : Words) (entry : ℕ) (w : Way) (u : ℕ) : Type 0 where
  pub goes : successors (flows words) entry (law.node (address w u))
      ≡ law.nodes_to (address w) (next w u)
  pub no_error : error_of (flows words) entry (law.node (address w u)) ≡ None
  pub decodes : option_and_then ins_of_word (words (address w u)) ≡ Some (ins w u)

pub record IsCode (words : Words) (entry : ℕ) (w : Way) : Type 0 where
  pub entry_at : address w 0 ≡ entry
  pub at : (u : ℕ) → u < size w → IsAt words entry w u
  pub one_number : IsTrue
      (each (size w) (λ u. each (size w) (λ v. needs (address w u == address w v) (u == v))))

has_code : (words : Words) (entry : ℕ) (w : Way) → IsCode words entry w
    → law.HasCode words entry (size w) (next w) (address w) (ins w)
has_code words entry w code =
    record {
      entry_at = code.entry_at;
      goes = λ u l. (code.at u l).goes;
      no_error = λ u l. (code.at u l).no_error;
      one_number = λ u v a b e.
          let row_of = each_says (size w)
          (λ x. each (size w) (λ z. needs (address w x == address w z) (x == z)))
          code.one_number u a in
          let t = each_says (size w) (λ z. needs (address w u == address w z) (u == z))
          row_of v b in
          eqb-true u v
          (needed (address w u == address w v) (u == v) t (eq-eqb (address w u) (address w v) e));
      instructions = λ u x l e.
          subst (λ o. option_and_then ins_of_word o ≡ Some (ins w u)) e (code.at u l).decodes;
    }

-- the graph is that of the code
pub is_graph_of : (words : Words) (entry : ℕ) (w : Way) → IsWay w → IsCode words entry w
    → IsGraphOf words (plan entry) (graph w)
is_graph_of words entry w way code =
    law.is_graph_of words entry (size w) (next w) (address w) (ins w) (before w)
    (has_code words entry w code) (line w way)

-- a node's cache set, and whether it is a hit
abbrev pub set_at : Platform → Way → ℕ → ℕ
set_at p w y = (accesses p (address w)).set y

abbrev pub hit_at : Platform → Way → ℕ → Bool
hit_at p w y = law.hit_at (before w) (accesses p (address w)) y

-- the sets, the potentials and the bound of a certificate that lists the first node alone
pub record IsCertified (p : Platform) (w : Way) (bound : ℕ)
    (evicting useful_sets potentials : List ℕ) : Type 0 where
  pub evicts : IsTrue (each (size w) (λ y. has_set evicting (set_at p w y)))
  pub reuses : IsTrue
      (each (size w) (λ y. needs (hit_at p w y) (has_set useful_sets (set_at p w y))))
  pub pays : IsTrue
      (each (size w)
      (λ u. at_next
      (λ v. nat_le
      (edge_cost p (node_code_of (graph w)) (hit_at p w) u v + slice_index_or potentials v 0)
      (slice_index_or potentials u 0)) (next w u)))
  pub ends : IsTrue
      (each (size w)
      (λ u. needs (answering (graph w) u)
      (nat_le (end_cost p (node_code_of (graph w)) (hit_at p w) u)
      (slice_index_or potentials u 0))))
  pub first : slice_index_or potentials 0 0 ≤ bound
  pub count : length potentials ≡ size w

-- each node's potential covers its edge with what comes after it, or the end
module _ (p : Platform) (w : Way) (bound : ℕ) (evicting useful_sets potentials : List ℕ)
    (is : IsCertified p w bound evicting useful_sets potentials) where
  abbrev pot : ℕ → ℕ
  pot y = slice_index_or potentials y 0

  pub pays_at : (u v : ℕ) → Edge (graph w).graph u v
      → edge_cost p (node_code_of (graph w)) (hit_at p w) u v + pot v ≤ pot u
  pays_at u v e =
      leb-true (edge_cost p (node_code_of (graph w)) (hit_at p w) u v + pot v) (pot u)
      (at_next_says
      (λ z. nat_le (edge_cost p (node_code_of (graph w)) (hit_at p w) u z + pot z) (pot u))
      (next w u) v
      (each_says (size w) (λ x.
      at_next (λ z. nat_le (edge_cost p (node_code_of (graph w)) (hit_at p w) x z + pot z)
      (pot x)) (next w x)) is.pays u e.0) e.1)

  pub ends_at : (u : ℕ) → u < size w → IsTrue (answering (graph w) u)
      → end_cost p (node_code_of (graph w)) (hit_at p w) u ≤ pot u
  ends_at u k b =
      leb-true (end_cost p (node_code_of (graph w)) (hit_at p w) u) (pot u)
      (needed (answering (graph w) u)
      (nat_le (end_cost p (node_code_of (graph w)) (hit_at p w) u) (pot u))
      (each_says (size w) (λ x.
      needs (answering (graph w) x)
      (nat_le (end_cost p (node_code_of (graph w)) (hit_at p w) x) (pot x))) is.ends u k) b)

-- with the hits that are counted
graph_meets : (p : Platform) (w : Way) (bound : ℕ) (evicting useful_sets potentials : List ℕ)
    (window : ℕ) → IsWay w → IsCertified p w bound evicting useful_sets potentials
    → GraphMeets p (graph w) (first_alone bound evicting useful_sets potentials window)
graph_meets p w bound evicting useful_sets potentials window way is =
    let g = (graph w).graph in
    let a = accesses p (address w) in
    let c = first_alone bound evicting useful_sets potentials window in
    let l = listed_of c in
    let f = law.lists_first (size w) (next w) bound evicting useful_sets potentials window in
    let on = line w way in
    record {
      listing = record {
        leaders = law.leaders g (before w) l on f;
        states = law.states g (before w) a l on f;
      };
      sets = record {
        useful = law.useful g (before w) a l on f;
        sets = law.sets g (before w) a l evicting useful_sets on f
            (λ y k. (
              each_says (size w) (λ z. has_set evicting (set_at p w z)) is.evicts y k,
              λ h. needed (hit_at p w y) (has_set useful_sets (set_at p w y))
                  (each_says (size w) (λ z.
                  needs (hit_at p w z) (has_set useful_sets (set_at p w z))) is.reuses y k) h,
            ));
      };
      is_hit = hit_at p w;
      hits = law.hits g (before w) a l on f;
      potentials =
          law.potentials g
          (edge_costs p (node_code_of (graph w)) (answering (graph w)) (hit_at p w))
          (potentials_of c) (λ u v. refl) (pays_at p w bound evicting useful_sets potentials is)
          (ends_at p w bound evicting useful_sets potentials is);
      bound = law.bound_meets g (potentials_of c) bound is.first;
    }

-- its part satisfies the clauses of the graph
pub part_holds : (p : Platform) (w : Way) (bound : ℕ) (evicting useful_sets potentials : List ℕ)
    (window : ℕ) → IsWay w → IsCertified p w bound evicting useful_sets potentials
    → (k : Clause) → GraphHolds p (graph w)
    (first_alone bound evicting useful_sets potentials window) k
part_holds p w bound evicting useful_sets potentials window way is =
    clauses_of p (graph w) (first_alone bound evicting useful_sets potentials window)
    numbers_below is.count refl
    (graph_meets p w bound evicting useful_sets potentials window way is)
  where
    numbers_below : (k : ℕ) (d : NodeState) → k < 1
        → (get_or (first_alone bound evicting useful_sets potentials window).states k d).node
        < size w
    numbers_below zero d l = way.some
    numbers_below (suc k) d l = absurd (omega (arith, l))

-- they do not depend on a name
pub named_holds : (p : Platform) (t : TaskGraph) (c : TaskPart) (name : List ℕ)
    → ((k : Clause) → GraphHolds p t c k) → (k : Clause) → GraphHolds p t (named name c) k
named_holds p t c name holds Leaders = holds Leaders
named_holds p t c name holds k = holds k
