-- The bound of a task, and acceptance, as the bounds of loops decrease.
use Rattle.std.proofs.Common.{◌≡◌, ℕ, ◌+◌, ◌*◌, ◌<◌, ◌≤◌, ◌⊎◌, Bool, true, not, ◌==◌, List, [], ◌∷◌}
use Rattle.std.proofs.Common.{length, refl, ap, subst, arith, inl, inr}
use Rattle.crpd_base.specs.Sets.{has}
use Rattle.std.proofs.lemmas.Bool.{cases_lt}
use Rattle.std.proofs.lemmas.Nat.{mul-le}
use Rattle.rv_decode.specs.Cost.{cost}
use Rattle.rv_decode.specs.Flow.{flow}
use Rattle.crpd_base.specs.Tasks.{HasTimes}
use Rattle.crpd_base.specs.declared.data.Part.{Part}
use Rattle.crpd_base.specs.declared.data.Platform.{Platform}
use Rattle.crpd_base.specs.declared.data.TaskSet.{TaskSet}
use Rattle.flat_graph.specs.EdgeCost.{NodeCode, edge_cost, end_cost, is_return}
use Rattle.must_cache.proofs.SureFacts.{sure_hits_agree}
use Rattle.loop_regions.specs.Nest.{Item, Node, Loop, IsItem, IsNested}
use Rattle.loop_regions.specs.Potentials.{Potentials, item_potential, Meets, edge_costs}
use Rattle.loop_regions.specs.Stated.{IsOnCycle, IsForwardPath}
use Rattle.loop_regions.specs.TaskGraph.{TaskGraph, node_code_of, answering}
use Rattle.loop_regions.proofs.Potential.{item_law}
use Rattle.exec_bound.proofs.Least.{least_law}
use Rattle.response.specs.Windows.{chosen_window}
use Rattle.cert_check.specs.JudgeInput.{accesses_of, longest_at}
use Rattle.sensitivity.specs.Accepted.{IsLeastBound, IsAnalysedPart, AreAnalysedParts, IsAccepted}
use Rattle.sensitivity.specs.Laws.{IsLoopBounded}
use Rattle.sensitivity.proofs.Bounds.{least_item, one_potential}
use Rattle.sustainability.specs.LoopBounds.{with_bounds, AreSmallerBounds, BoundsAreSustainable}
use Rattle.sustainability.specs.LoopBounds.{LoopBoundsAreSustainable}
use Rattle.sustainability.specs.SetLaws.{IsAcceptedWithin}
use Rattle.sustainability.specs.Workload.{Workload, IsNoMoreDemanding}
use Rattle.sustainability.proofs.Windows.{windows_are_sustainable}

-- the same hits at a node give its edges the same costs
edge_same : (p : Platform) (l : NodeCode) (one two : ℕ → Bool) (u v : ℕ) → one u ≡ two u
    → edge_cost p l one u v ≡ edge_cost p l two u v
edge_same p l one two u v same =
    ap (λ b. cost p (l.ins u) (not b) (not (l.address v == l.address u + 4))) same

end_same : (p : Platform) (l : NodeCode) (one two : ℕ → Bool) (u : ℕ) → one u ≡ two u
    → end_cost p l one u ≡ end_cost p l two u
end_same p l one two u same =
    ap (λ b. cost p (l.ins u) (not b) (is_return (flow (l.address u) (l.ins u)))) same

-- potentials for larger bounds satisfy the inequalities for smaller ones
meets_smaller : (p : Platform) (t : TaskGraph) (less more : ℕ → ℕ) (one two : ℕ → Bool)
    (q : Potentials) → AreSmallerBounds t less more
    → ((u : ℕ) → u < t.graph.size → one u ≡ two u)
    → Meets t.graph (with_bounds t more).nest (edge_costs p (node_code_of t) (answering t) two) q
    → Meets t.graph (with_bounds t less).nest (edge_costs p (node_code_of t) (answering t) one) q
meets_smaller p t less more one two q le same M = record {
  nodes = λ u lt. record {
    edge = λ v w.
        let e = edge_same p (node_code_of t) one two u v (same u lt) in
        let h = (M.nodes u lt).edge v w in
        omega (arith, e, h);
    end = λ a.
        let e = end_same p (node_code_of t) one two u (same u lt) in
        let h = (M.nodes u lt).end a in
        omega (arith, e, h);
    inside = λ v i w n o it.
        let e = edge_same p (node_code_of t) one two u v (same u lt) in
        let h = (M.nodes u lt).inside v i w n o it in
        omega (arith, e, h);
    exit = λ v r i w n o it.
        let fewer = fewer_turns r o.0.0 in
        let h = (M.nodes u lt).exit v r i w n o it in
        omega (arith, fewer, h);
  };
  loops = λ r l. let fewer = fewer_turns r l in let h = M.loops r l in omega (arith, fewer, h);
}
  where
    fewer_turns : (r : ℕ) → r < t.nest.size
        → less r * q.node (t.nest.head r) ≤ more r * q.node (t.nest.head r)
    fewer_turns r l =
        mul-le (less r) (q.node (t.nest.head r)) (more r) (q.node (t.nest.head r)) (le r l)
        (omega arith)

pub bounds_are_sustainable : BoundsAreSustainable
bounds_are_sustainable p t less more c e G le A B =
    let i = item_law t.nest t.graph.first in
    let M = meets_smaller p t less more A.is_hit B.is_hit B.potentials le
    (sure_hits_agree t.graph (accesses_of p t) A.is_hit B.is_hit A.hits B.hits) B.least.meets in
    let l = least_item t.graph (with_bounds t less).nest
    (edge_costs p (node_code_of t) (answering t) A.is_hit) A.potentials B.potentials i.0 A.least M
    G.first (as_item i.0 i.1) in
    let a = A.first i.0 (as_item i.0 i.1) in
    let b = B.first i.0 (as_item_too i.0 i.1) in
    omega (arith, a, b, l)
  where
    as_item : (i : Item) → IsItem t.nest t.graph.first i
        → IsItem (with_bounds t less).nest t.graph.first i
    as_item (Node y) h = h
    as_item (Loop r) h = h

    as_item_too : (i : Item) → IsItem t.nest t.graph.first i
        → IsItem (with_bounds t more).nest t.graph.first i
    as_item_too (Node y) h = h
    as_item_too (Loop r) h = h

-- ---- with these bounds of loops a task has a bound too

module _ (t : TaskGraph) (bounds : ℕ → ℕ) (S : IsLoopBounded t) where
  nested : IsNested t.graph (with_bounds t bounds).nest
  nested =
      let N = S.nested in
      record {
        holds_nodes = N.holds_nodes;
        holds_head = N.holds_head;
        one_head = N.one_head;
        one_entry = N.one_entry;
        one_start = N.one_start;
        nested = N.nested;
      }

  same_path : (y z : ℕ) (between : List ℕ)
      → IsForwardPath t.graph (with_bounds t bounds).nest y between z
      → IsForwardPath t.graph t.nest y between z
  same_path y z [] h = h
  same_path y z (x ∷ before) h = (same_path y x before h.0, h.1)

  no_cycle : (y : ℕ) → IsOnCycle t.graph (with_bounds t bounds).nest y → ⊥
  no_cycle y h = S.no_cycle y (h.0, same_path y y h.0 h.1)

  pub loop_bounded : IsLoopBounded (with_bounds t bounds)
  loop_bounded = record { graph = S.graph; nested = nested; no_cycle = no_cycle }

some_bound : (p : Platform) (t : TaskGraph) (bounds : ℕ → ℕ) (e : ℕ) → IsLoopBounded t
    → IsLeastBound p t e → (c : ℕ) × IsLeastBound p (with_bounds t bounds) c
some_bound p t bounds e S B =
    let n = (with_bounds t bounds).nest in
    let l = least_law t.graph n (edge_costs p (node_code_of t) (answering t) B.is_hit) S.graph
    (nested t bounds S) (no_cycle t bounds S) in
    let i = item_law n t.graph.first in (
      item_potential l.0 i.0,
      record {
        is_hit = B.is_hit;
        hits = B.hits;
        potentials = l.0;
        least = l.1;
        first = λ j it. one_potential n l.0 t.graph.first i.0 j S.nested.one_head i.1 it;
      },
    )

-- ---- acceptance

module _ (set : TaskSet) (graphs : ℕ → TaskGraph) (bounds : ℕ → ℕ → ℕ) (T : HasTimes set)
    (S : (k : ℕ) → k < length set.tasks → IsLoopBounded (graphs k))
    (le : (k : ℕ) → k < length set.tasks
    → AreSmallerBounds (graphs k) (bounds k) (graphs k).nest.bound)
    (a : IsAccepted set graphs) where
  abbrev bounded : ℕ → TaskGraph
  bounded k = with_bounds (graphs k) (bounds k)

  least : (k : ℕ) → k < length set.tasks → (c : ℕ) × IsLeastBound set.platform (bounded k) c
  least k l =
      some_bound set.platform (graphs k) (bounds k) (a.parts k).bound (S k l) (a.are.each k l).bound

  -- with the bound if there is such a task
  part_of : (k : ℕ) → (k < length set.tasks) ⊎ (length set.tasks ≤ k) → Part
  part_of k (inl l) = record (a.parts k) { bound = (least k l).0 }
  part_of k (inr over) = a.parts k

  record IsSmallerPart (k : ℕ) (part : Part) : Type 0 where
    analysed : IsAnalysedPart set.platform (bounded k) part
    bound : part.bound ≤ (a.parts k).bound
    evicting : part.evicting ≡ (a.parts k).evicting
    useful : part.useful ≡ (a.parts k).useful

  is_part : (k : ℕ) (h : (k < length set.tasks) ⊎ (length set.tasks ≤ k)) → k < length set.tasks
      → IsSmallerPart k (part_of k h)
  unfolding part_of
  is_part k (inl h) l =
      let A = a.are.each k l in
      record {
        analysed = record {
          bound = (least k h).1;
          sets = record { evicting = A.sets.evicting; useful = A.sets.useful };
        };
        bound =
            bounds_are_sustainable set.platform (graphs k) (bounds k) (graphs k).nest.bound
            (least k h).0 (a.parts k).bound (S k l).graph (le k l) (least k h).1 A.bound;
        evicting = refl;
        useful = refl;
      }
  is_part k (inr over) l = absurd (omega (arith, over, l))

  parts : ℕ → Part
  parts k = part_of k (cases_lt k (length set.tasks))

  smaller : (k : ℕ) → k < length set.tasks → IsSmallerPart k (parts k)
  unfolding parts
  smaller k l = is_part k (cases_lt k (length set.tasks)) l

  are : AreAnalysedParts set bounded parts
  are = record {
    each = λ k l. (smaller k l).analysed;
    within = λ k l.
        let b = (smaller k l).bound in
        let w = a.are.within k l in
        omega (arith, b, w);
  }

  abbrev less_load : Workload
  less_load = record { set = set; parts = parts; longest = longest_at set.platform bounded }

  abbrev more_load : Workload
  more_load = record { set = set; parts = a.parts; longest = longest_at set.platform graphs }

  no_more : IsNoMoreDemanding (λ k. k) less_load more_load
  no_more = record {
    order = record { within = λ k l. l; rising = λ j k l h. l };
    platform = record { switching = refl; miss = omega arith; switch = omega arith };
    times = record {
      period = λ k l. omega arith;
      deadline = λ k l. omega arith;
      jitter = λ k l. omega arith;
    };
    parts = λ k l.
        let P = smaller k l in
        record {
          bound = P.bound;
          evicting = λ c h. subst (λ z. has z c ≡ true) P.evicting h;
          useful = λ c h. subst (λ z. has z c ≡ true) P.useful h;
        };
    longest = λ k l. omega arith;
  }

  pub accepted_within : IsAcceptedWithin (λ k. k) set bounded (chosen_window a.choices)
  accepted_within =
      let W = windows_are_sustainable (λ k. k) less_load more_load a.choices T no_more a.windows in
      record {
        accepted = record { parts = parts; are = are; choices = W.choices; windows = W.are };
        no_longer = W.no_longer;
      }

pub loop_bounds_are_sustainable : LoopBoundsAreSustainable
loop_bounds_are_sustainable set graphs bounds T S le a =
    accepted_within set graphs bounds T S le a
