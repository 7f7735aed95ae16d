-- Persistent pairs, prepaid hits, payments and bounds of worked tasks, by tests that compute: of any
-- events of their regions.
use Rattle.std.proofs.Common.{◌≡◌, ◌↔◌, ℕ, ◌+◌, ◌<◌, ◌≤◌, Bool, Option, Some, is_some, IsTrue, sym, ◌∙◌}
use Rattle.std.proofs.Common.{ap, arith}
use Rattle.std.proofs.Common.{◌==◌, ◌&&◌, eqb-true, eq-eqb}
use Rattle.std.proofs.lemmas.Bool.{and_parts, and_from}
use Rattle.crpd_base.proofs.Bools.{each, each_says}
use Rattle.crpd_base.specs.declared.data.Platform.{Platform}
use Rattle.flat_graph.specs.Graph.{Graph, Edge, IsGraph}
use Rattle.icache.specs.Accesses.{Accesses, accesses}
use Rattle.loop_regions.specs.Nest.{Nest, IsNested}
use Rattle.loop_regions.specs.Potentials.{Potentials}
use Rattle.loop_regions.specs.TaskGraph.{TaskGraph}
use Rattle.must_cache.specs.Events.{Events}
use Rattle.must_cache.specs.Prepaid.{IsPrepaidHit, CountsPrepaidHits, Pays, CountsPayments}
use Rattle.exec_bound.specs.Least.{AreLeastPotentials}
use Rattle.walk_parts.specs.Credit.{Payments, start_price}
use Rattle.walk_parts.specs.Priced.{paid_costs}
use Rattle.persistent_blocks.specs.PersistentPart.{IsPersistentBound}
use Rattle.persistent_blocks.specs.Regions.{IsPersistent, AreRegionEvents}
use Rattle.persistent_blocks.proofs.Computed.{region_events, are_region_events, pair_of, pair_is}
use Rattle.persistent_blocks.proofs.Computed.{some_says}
use Rattle.persistent_blocks.proofs.OnePart.{SameEvents, other_way, events_agree, pays_too, hit_too}
use Rattle.persistent_blocks.proofs.Tests as tests
use Rattle.persistent_blocks.proofs.TestedBounds.{value_at, item_value}

module _ (p : Platform) (t : TaskGraph) (some_sets : 1 ≤ p.sets) (G : IsGraph t.graph)
    (N : IsNested t.graph t.nest) where
  abbrev g : Graph
  g = t.graph

  abbrev n : Nest
  n = t.nest

  abbrev a : Accesses
  a = accesses p t.places.address

  abbrev pub events : Events
  events = region_events g a n

  pub are_events : AreRegionEvents g a n events
  are_events = are_region_events g a n N

  set_below : (y : ℕ) → a.set y < p.sets
  set_below y = omega (arith, some_sets)

  -- the sets of persistent pairs are cache sets
  pub pair_below : (r s m : ℕ) → IsPersistent a n r s m → s < p.sets
  pair_below r s m pair =
      let l = set_below pair.node in let own = pair.own in omega (arith, l, own)

  -- the pairs of a region are lines
  pub pairs_are : (r base low high : ℕ) → r < n.size → high < p.sets
      → IsTrue (each p.sets (λ s. tests.same (pair_of g a n r s) (tests.lines base low high s)))
      → (s m : ℕ) → IsPersistent a n r s m ↔ ((low ≤ s) × (s ≤ high) × (m ≡ base + s))
  pairs_are r base low high lt few test s m =
      let are : s < p.sets → pair_of g a n r s ≡ tests.lines base low high s =
      λ l. tests.same_says (pair_of g a n r s) (tests.lines base low high s)
      (each_says p.sets (λ z. tests.same (pair_of g a n r z) (tests.lines base low high z)) test s l)
      in
      let is = pair_is g a n N r s m lt in (
        λ pair. (tests.lines_say base low high s m).0
            (sym (are (pair_below r s m pair)) ∙ is.1 pair),
        λ h. is.0
            (are (let le = h.1 in omega (arith, few, le))
            ∙ (tests.lines_say base low high s m).1 h),
      )

  brings_below : (u v s m : ℕ) → Edge g u v → events.brings u v s ≡ Some m → s < p.sets
  brings_below u v s m edge is =
      let loads = (are_events.edges u v s m edge).0 is in pair_below loads.region s m loads.pair

  pub payment_below : (f : Events) → AreRegionEvents g a n f → (u v s : ℕ) → Edge g u v
      → Pays g f u v s → s < p.sets
  payment_below f F u v s edge pays =
      let loads = (F.edges u v s pays.0 edge).0 pays.1 in pair_below loads.region s pays.0 loads.pair

  module _ (held : ℕ → ℕ → Option ℕ) (start : IsTrue (tests.starts_so g events p.sets held))
      (steps : IsTrue (tests.goes_on_so g events p.sets held)) where
    abbrev pub is_hit : ℕ → Bool
    is_hit = tests.is_hit g events p.sets held

    abbrev pub pays : ℕ → ℕ → ℕ → Bool
    pays = tests.pays g events p.sets held

    hits : CountsPrepaidHits g events is_hit
    hits = tests.hits g events p.sets held start steps G set_below

    payments : CountsPayments g events pays
    payments = tests.payments g events p.sets held start steps G brings_below

    -- of any events of the regions
    module _ (f : Events) (F : AreRegionEvents g a n f) where
      agree : SameEvents g events f
      agree = events_agree g a n events f are_events F

      pub any_hits : (y : ℕ) → y < g.size → IsTrue (is_hit y) ↔ IsPrepaidHit g f y
      any_hits y lt = (
        λ h. hit_too g events f agree y ((hits y lt).0 h),
        λ h. (hits y lt).1 (hit_too g f events (other_way g events f agree) y h),
      )

      pub any_payments : (u v s : ℕ) → Edge g u v → IsTrue (pays u v s) ↔ Pays g f u v s
      any_payments u v s edge = (
        λ h. pays_too g events f agree u v s edge ((payments u v s edge).0 h),
        λ h. (payments u v s edge).1
            (pays_too g f events (other_way g events f agree) u v s edge h),
      )

    -- whether it is an edge from this node, and one of the sets from `low` to `high`
    abbrev pub at_entry : ℕ → ℕ → ℕ → ℕ → ℕ → Bool
    at_entry from low high u s = (u == from) && tests.between low high s

    entry_says : (from low high u s : ℕ)
        → IsTrue (at_entry from low high u s) ↔ ((u ≡ from) × (low ≤ s) × (s ≤ high))
    entry_says from low high u s = (
      λ t.
          let parts = and_parts (u == from) (tests.between low high s) t in
          let is = (tests.between_says low high s).0 parts.1 in
          (eqb-true u from parts.0, is.0, is.1),
      λ h. and_from (u == from) (tests.between low high s) (eq-eqb u from h.0)
          ((tests.between_says low high s).1 (h.1, h.2)),
    )

    -- the edges from one node pay for these sets, and no others do
    pub payments_are : (from low high : ℕ) → high < p.sets
        → IsTrue (tests.each_edge g
        (λ u v. each p.sets (λ s. tests.alike (pays u v s) (at_entry from low high u s))))
        → (f : Events) → AreRegionEvents g a n f → (u v s : ℕ) → Edge g u v
        → Pays g f u v s ↔ ((u ≡ from) × (low ≤ s) × (s ≤ high))
    payments_are from low high few test f F u v s edge =
        let is : s < p.sets → pays u v s ≡ at_entry from low high u s =
        λ l. tests.alike_says (pays u v s) (at_entry from low high u s)
        (each_says p.sets (λ z. tests.alike (pays u v z) (at_entry from low high u z))
        (tests.each_edge_says g
        (λ w x. each p.sets (λ z. tests.alike (pays w x z) (at_entry from low high w z))) test u v
        edge) s l) in
        let any = any_payments f F u v s edge in (
          λ paid. (entry_says from low high u s).0
              (sym (is (payment_below f F u v s edge paid)) ∙ any.1 paid),
          λ h. any.0
              (is (let le = h.2 in omega (arith, few, le)) ∙ (entry_says from low high u s).1 h),
        )

    abbrev pub pay : Payments
    pay = record { edge = pays; start = λ s. is_some (events.at_start s) }

    pub worked_bound : (q : Potentials) (bound : ℕ)
        → AreLeastPotentials g n (paid_costs p t pay is_hit) q
        → bound ≡ value_at n q g.first + start_price p pay → IsPersistentBound p t bound
    worked_bound q bound L is = record {
      events = events;
      are = are_events;
      bound_is = record {
        is_hit = is_hit;
        hits = hits;
        pay = pay;
        edges = payments;
        start = λ s. some_says (events.at_start s);
        potentials = q;
        least = L;
        bound_is = λ i item.
            is ∙ ap (λ k. k + start_price p pay)
            (sym (item_value n N.one_head q g.first i item));
      };
    }
