-- A task with a loop in a loop, by tests that compute.
use Rattle.std.proofs.Common.{pred, ◌≡◌, ◌≢◌, ◌⊎◌, ◌↔◌, ℕ, ◌<◌, ◌≤◌, ◌==◌, ◌&&◌, ◌||◌, not, Bool}
use Rattle.std.proofs.Common.{false, nat_lt, nat_le, if◌then◌else◌, [], ◌∷◌, slice_index_or}
use Rattle.std.proofs.Common.{Option, Some, None, IsTrue, refl, sym, ap, ◌∙◌, inl, inr}
use Rattle.std.proofs.Common.{arith, eqb-true, ltb-true, leb-true, le-leb, lt-ltb, ne_eqb}
use Rattle.std.proofs.lemmas.Bool.{and_parts, and_from, false≢true, not-true, eqb-false}
use Rattle.rv_decode.specs.Cost.{work_cost}
use Rattle.rv_decode.specs.Flow.{flow}
use Rattle.crpd_base.proofs.Bools.{each_says, needs, needed}
use Rattle.crpd_base.proofs.Few.{two}
use Rattle.flat_graph.specs.Graph.{Graph, Edge, IsGraph}
use Rattle.loop_regions.specs.Nest.{Nest, IsNested, IsInside}
use Rattle.loop_regions.specs.Potentials.{Costs, Potentials, Meets}
use Rattle.loop_regions.specs.TaskGraph.{answering}
use Rattle.must_cache.specs.Events.{Events}
use Rattle.must_cache.specs.Prepaid.{IsPrepaidHit}
use Rattle.exec_bound.specs.Least.{AreLeastPotentials}
use Rattle.exec_bound.proofs.Agree.{Agree, least}
use Rattle.walk_parts.specs.Priced.{paid_costs}
use Rattle.persistent_blocks.specs.NestedLoops.{platform, task, uses, NestedLoops}
use Rattle.persistent_blocks.specs.Regions.{AreRegionEvents}
use Rattle.persistent_blocks.proofs.Tests.{each_edge, each_edge_says, alike, alike_says, lines}
use Rattle.persistent_blocks.proofs.TestedBounds.{costs_agree, tested, tested_least}
use Rattle.persistent_blocks.proofs.TestedBounds.{is_graph as graph_by}
use Rattle.persistent_blocks.proofs.Worked as worked

abbrev g : Graph
g = task.graph

abbrev n : Nest
n = task.nest

-- ---- the graph and its regions

is_graph : IsGraph g
is_graph = graph_by g (λ y. y) pred refl refl refl

-- an edge from outside region r into it leads to its head
abbrev at_head : ℕ → ℕ → ℕ → Bool
at_head r u v = needs (not (n.holds r u) && n.holds r v) (v == n.head r)

enters_at_head : (r u v : ℕ) → r < 2 → Edge g u v → n.holds r u ≡ false → IsTrue (n.holds r v)
    → v ≡ n.head r
enters_at_head r u v lt e out into =
    eqb-true v (n.head r) (needed (not (n.holds r u) && n.holds r v) (v == n.head r)
    (each_edge_says g (at_head r)
    (each_says 2 (λ z. each_edge g (at_head z)) refl r lt) u v e)
    (and_from (not (n.holds r u)) (n.holds r v) (ap not out) into))

holds_nodes : (y : ℕ) (r : ℕ) → r < 2 → IsTrue (n.holds r y) → y < 29
holds_nodes y = two (λ r. IsTrue (n.holds r y) → y < 29)
    (λ h. let l = ltb-true y 28 (and_parts (nat_le 4 y) (nat_lt y 28) h).1 in omega (arith, l))
    (λ h. let l = ltb-true y 15 (and_parts (nat_le 8 y) (nat_lt y 15) h).1 in omega (arith, l))

-- the inner loop is in the outer one
inner_inside : IsInside n 1 0
inner_inside y h =
    let parts = and_parts (nat_le 8 y) (nat_lt y 15) h in
    let low = leb-true 8 y parts.0 in
    let high = ltb-true y 15 parts.1 in
    and_from (nat_le 4 y) (nat_lt y 28) (le-leb 4 y (omega (arith, low)))
    (lt-ltb y 28 (omega (arith, high)))

-- what holds of each pair of regions
both : (P : ℕ → ℕ → Type 0) → P 0 0 → P 0 1 → P 1 0 → P 1 1 → (r s : ℕ) → r < 2 → s < 2 → P r s
both P a b c d r s lt k =
    two (λ x. (y : ℕ) → y < 2 → P x y) (two (P 0) a b) (two (P 1) c d) r lt s k

is_nested : IsNested g n
is_nested = record {
  holds_nodes = λ r y lt h. holds_nodes y r lt h;
  holds_head = two (λ r. IsTrue (n.holds r (n.head r))) refl refl;
  one_head = both (λ r s. n.head r ≡ n.head s → r ≡ s) (λ e. refl) (λ e. absurd (omega (arith, e)))
      (λ e. absurd (omega (arith, e))) (λ e. refl);
  one_entry = λ r u v lt e out into. enters_at_head r u v lt e out into;
  one_start = two (λ r. IsTrue (n.holds r 0) → 0 ≡ n.head r) (λ h. absurd (false≢true h))
      (λ h. absurd (false≢true h));
  nested = λ r s y lt k h i. both (λ x z. IsInside n x z ⊎ IsInside n z x) (inl (λ w j. j))
      (inr inner_inside) (inl inner_inside) (inl (λ w j. j)) r s lt k;
}

some_sets : 1 ≤ 8
some_sets = omega arith

-- ---- their prepaid hits and payments

-- what the sets hold before each node: the loops' lines from the outer head on
abbrev held : ℕ → ℕ → Option ℕ
held y s =
    if y == 0 then None else if s == 0 then Some 256 else if nat_lt y 4 then None else lines 256 1 6 s

abbrev is_hit : ℕ → Bool
is_hit = worked.is_hit platform task some_sets is_graph is_nested held refl refl

abbrev pays : ℕ → ℕ → ℕ → Bool
pays = worked.pays platform task some_sets is_graph is_nested held refl refl

-- of any events of the regions
module _ (f : Events) (F : AreRegionEvents g uses n f) where
  hits : (y : ℕ) → y < 29 → IsPrepaidHit g f y ↔ ((y ≢ 0) × (y ≢ 28))
  hits y lt =
      let test = worked.any_hits platform task some_sets is_graph is_nested held refl refl f F y lt in
      let is = alike_says (is_hit y) (not (y == 0) && not (y == 28))
      (each_says 29 (λ z. alike (is_hit z) (not (z == 0) && not (z == 28))) refl y lt) in (
        λ h. let parts = and_parts (not (y == 0)) (not (y == 28)) (sym is ∙ test.1 h) in (
          eqb-false y 0 (not-true (y == 0) parts.0),
          eqb-false y 28 (not-true (y == 28) parts.1),
        ),
        λ ne. test.0 (is ∙ and_from (not (y == 0)) (not (y == 28)) (ap not (ne_eqb y 0 ne.0))
            (ap not (ne_eqb y 28 ne.1))),
      )

-- ---- their bound

abbrev costs : Costs
costs =
    paid_costs platform task (worked.pay platform task some_sets is_graph is_nested held refl refl)
    is_hit

-- the costs as numbers
abbrev numbers : Costs
numbers = record {
  edge = λ u v.
      if u == 0 then 11 else if ((u == 14) && (v == 8)) || ((u == 27) && (v == 4)) then 3 else 1;
  price = λ u v. if u == 3 then 60 else 0;
  answers = answering task;
  end = λ u. if (u == 0) || (u == 28) then 11 else 1;
}

agree : Agree g numbers costs
unfolding work_cost flow
agree = costs_agree g numbers costs refl refl (λ u. refl) refl

-- a turn of the inner loop costs 7 + 2, one of the outer loop 17 + 2 and five of those
abbrev potentials : Potentials
potentials = record {
  node = λ y. slice_index_or (
      341 ∷ 330 ∷ 329 ∷ 328 ∷ 64 ∷ 63 ∷ 62 ∷ 61 ∷ 9 ∷ 8 ∷ 7 ∷ 6 ∷ 5 ∷ 4 ∷ 3 ∷ 15 ∷ 14 ∷ 13 ∷ 12 ∷ 11
      ∷ 10 ∷ 9 ∷ 8 ∷ 7 ∷ 6 ∷ 5 ∷ 4 ∷ 3 ∷ 11 ∷ []
      ) y 0;
  loop = λ r. if r == 0 then 267 else 60;
}

meets : Meets g n numbers potentials
unfolding flow
meets = tested g n numbers potentials is_nested.one_head refl refl refl refl refl

are_least : AreLeastPotentials g n numbers potentials
unfolding flow
are_least = tested_least g n numbers (λ y. y) potentials is_graph is_nested meets refl refl

pub nested_loops : NestedLoops
nested_loops = record {
  graph = is_graph;
  nested = is_nested;
  outer = worked.pairs_are platform task some_sets is_graph is_nested 0 256 1 6 (omega arith)
      (omega arith) refl;
  inner = worked.pairs_are platform task some_sets is_graph is_nested 1 256 2 3 (omega arith)
      (omega arith) refl;
  payments = λ f u v s F edge.
      worked.payments_are platform task some_sets is_graph is_nested held refl refl 3 1 6 (omega arith)
      refl f F u v s edge;
  hits = λ f y F lt. hits f F y lt;
  bound = worked.worked_bound platform task some_sets is_graph is_nested held refl refl potentials 341
      (least g n numbers costs agree potentials are_least) refl;
}
