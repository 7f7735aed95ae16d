-- A task with a call in a loop, by tests that compute.
use Rattle.std.proofs.Common.{◌≡◌, ◌≢◌, ◌↔◌, ℕ, pred, ◌+◌, ◌-◌, ◌<◌, ◌≤◌, ◌==◌, ◌&&◌, ◌||◌, not, Bool, false}
use Rattle.std.proofs.Common.{nat_lt, nat_le, if◌then◌else◌, [], ◌∷◌, slice_index_or, Option, Some, None}
use Rattle.std.proofs.Common.{IsTrue, refl, sym, ap, ◌∙◌, inl, arith, eqb-true, ltb-true, ne_eqb}
use Rattle.std.proofs.lemmas.Bool.{and_parts, and_from, false≢true, not-true, eqb-false}
use Rattle.rv_decode.specs.Cost.{work_cost}
use Rattle.rv_decode.specs.Flow.{flow}
use Rattle.crpd_base.proofs.Bools.{each_says, needs, needed}
use Rattle.flat_graph.specs.Graph.{Graph, Edge, IsGraph}
use Rattle.loop_regions.specs.Nest.{Nest, IsNested}
use Rattle.loop_regions.specs.Potentials.{Costs, Potentials, Meets}
use Rattle.loop_regions.specs.TaskGraph.{answering}
use Rattle.must_cache.specs.Events.{Events}
use Rattle.must_cache.specs.Prepaid.{IsPrepaidHit}
use Rattle.exec_bound.specs.Least.{AreLeastPotentials}
use Rattle.exec_bound.proofs.Agree.{Agree, least}
use Rattle.walk_parts.specs.Priced.{paid_costs}
use Rattle.persistent_blocks.specs.NestedLoops.{platform}
use Rattle.persistent_blocks.specs.LoopWithCall.{task, uses, LoopWithCall}
use Rattle.persistent_blocks.specs.Regions.{AreRegionEvents}
use Rattle.persistent_blocks.proofs.Tests.{each_edge_says, alike, alike_says, lines}
use Rattle.persistent_blocks.proofs.TestedBounds.{costs_agree, tested, tested_least}
use Rattle.persistent_blocks.proofs.TestedBounds.{is_graph as graph_by}
use Rattle.persistent_blocks.proofs.Worked as worked

abbrev g : Graph
g = task.graph

abbrev n : Nest
n = task.nest

-- ---- the graph and its region

-- the place of a node on the way through, and the node before it
abbrev place : ℕ → ℕ
place y = if nat_le 9 y then y - 3 else if nat_le 6 y then y + 5 else y

abbrev before : ℕ → ℕ
before y = if y == 9 then 5 else if y == 6 then 13 else pred y

is_graph : IsGraph g
is_graph = graph_by g place before refl refl refl

-- an edge from outside the loop into it leads to its head
abbrev at_head : ℕ → ℕ → Bool
at_head u v = needs (not (n.holds 0 u) && n.holds 0 v) (v == 4)

enters_at_head : (r u v : ℕ) → Edge g u v → n.holds r u ≡ false → IsTrue (n.holds r v) → v ≡ 4
enters_at_head r u v e out into =
    eqb-true v 4 (needed (not (n.holds 0 u) && n.holds 0 v) (v == 4)
    (each_edge_says g at_head refl u v e)
    (and_from (not (n.holds 0 u)) (n.holds 0 v) (ap not out) into))

is_nested : IsNested g n
is_nested = record {
  holds_nodes = λ r y lt h.
      let parts = and_parts (nat_le 4 y && nat_lt y 14) (not (y == 8)) h in
      let within = and_parts (nat_le 4 y) (nat_lt y 14) parts.0 in
      ltb-true y 14 within.1;
  holds_head = λ r lt. refl;
  one_head = λ r s lt k e. omega (arith, lt, k);
  one_entry = λ r u v lt e out into. enters_at_head r u v e out into;
  one_start = λ r lt h. absurd (false≢true h);
  nested = λ r s y lt k h i. inl (λ z j. j);
}

some_sets : 1 ≤ 8
some_sets = omega arith

-- ---- its prepaid hits

-- what the sets hold before each node: the loop's lines from its head on
abbrev held : ℕ → ℕ → Option ℕ
held y s =
    if y == 0 then None else if s == 0 then Some 256
    else if nat_lt y 4 then None else lines 256 1 3 s

abbrev is_hit : ℕ → Bool
is_hit = worked.is_hit platform task some_sets is_graph is_nested held refl refl

hits : (f : Events) → AreRegionEvents g uses n f → (y : ℕ) → y < 14 → IsPrepaidHit g f y ↔ (y ≢ 0)
hits f F y lt =
    let test = worked.any_hits platform task some_sets is_graph is_nested held refl refl f F y lt in
    let is = alike_says (is_hit y) (not (y == 0))
    (each_says 14 (λ z. alike (is_hit z) (not (z == 0))) refl y lt) in (
      λ h first. eqb-false y 0 (not-true (y == 0) (sym is ∙ test.1 h)) first,
      λ ne. test.0 (is ∙ ap not (ne_eqb y 0 ne)),
    )

-- ---- its bound

abbrev costs : Costs
costs =
    paid_costs platform task (worked.pay platform task some_sets is_graph is_nested held refl refl)
    is_hit

-- the costs as numbers
abbrev numbers : Costs
numbers = record {
  edge = λ u v.
      if u == 0 then 11
      else if (u == 5) || ((u == 13) || ((u == 7) && (v == 4))) then 3 else 1;
  price = λ u v. if u == 3 then 30 else 0;
  answers = answering task;
  end = λ u. if u == 0 then 11 else if u == 13 then 3 else 1;
}

agree : Agree g numbers costs
unfolding work_cost flow
agree = costs_agree g numbers costs refl refl (λ u. refl) refl

-- a turn costs 15, and the three turns with what follows 46
abbrev potentials : Potentials
potentials = record {
  node = λ y. slice_index_or (
      90 ∷ 79 ∷ 78 ∷ 77 ∷ 15 ∷ 14 ∷ 4 ∷ 3 ∷ 1 ∷ 11 ∷ 10 ∷ 9 ∷ 8 ∷ 7 ∷ []
      ) y 0;
  loop = λ r. 46;
}

meets : Meets g n numbers potentials
unfolding flow
meets = tested g n numbers potentials is_nested.one_head refl refl refl refl refl

are_least : AreLeastPotentials g n numbers potentials
unfolding flow
are_least = tested_least g n numbers place potentials is_graph is_nested meets refl refl

pub loop_with_call : LoopWithCall
loop_with_call = record {
  graph = is_graph;
  nested = is_nested;
  pairs = worked.pairs_are platform task some_sets is_graph is_nested 0 256 1 3 (omega arith)
      (omega arith) refl;
  payments = λ f u v s F edge.
      worked.payments_are platform task some_sets is_graph is_nested held refl refl 3 1 3 (omega arith)
      refl f F u v s edge;
  hits = λ f y F lt. hits f F y lt;
  bound = worked.worked_bound platform task some_sets is_graph is_nested held refl refl potentials 90
      (least g n numbers costs agree potentials are_least) refl;
}
