-- The bound with the prices of a table, and the part that it makes.
use Rattle.std.proofs.Common.{◌≡◌, ◌↔◌, ℕ, ◌+◌, ◌*◌, ◌<◌, ◌≤◌, Bool, List, length, IsTrue}
use Rattle.std.proofs.Common.{refl, sym, ap, ◌∙◌, subst, arith, slice_get, slice_index_or}
use Rattle.std.proofs.Common.{false}
use Rattle.crpd_base.specs.Limits.{longest_time}
use Rattle.crpd_base.specs.Sets.{has, IsSetOf}
use Rattle.crpd_base.specs.declared.data.Part.{Part}
use Rattle.crpd_base.specs.declared.data.Platform.{Platform}
use Rattle.evict_sets.specs.Evicting.{IsEcb}
use Rattle.evict_sets.specs.Listing.{counted}
use Rattle.exec_bound.specs.Costs.{price_place, table_price, priced_costs, greatest_bound, IsBound}
use Rattle.exec_bound.specs.Costs.{IsTooLarge, listed_potentials}
use Rattle.exec_bound.proofs.Agree.{Agree, least}
use Rattle.flat_graph.specs.Graph.{Graph, Edge}
use Rattle.flat_graph.specs.CodeGraph.{CodeGraph, graph_of, places_of}
use Rattle.icache.specs.Accesses.{Accesses, accesses}
use Rattle.loop_regions.specs.CodeNest.{CodeNest, nest_of}
use Rattle.loop_regions.specs.Nest.{Nest, IsNested, Item, Node, Loop, IsItem}
use Rattle.loop_regions.specs.Potentials.{item_potential}
use Rattle.loop_regions.specs.TaskGraph.{TaskGraph}
use Rattle.loop_regions.specs.TaskGraphs.{task_graph}
use Rattle.must_cache.specs.Events.{Events}
use Rattle.must_cache.specs.Marks.{sets_at}
use Rattle.must_cache.specs.Prepaid.{Pays, PaysAtStart, CountsPrepaidHits, CountsPayments}
use Rattle.useful_sets.specs.Unpaid.{AreUsefulUnpaid}
use Rattle.useful_sets.proofs.UnpaidLaws.{prepaid_ucb_law, counted_prepaid_law}
use Rattle.walk_parts.specs.Credit.{Payments, price, start_price}
use Rattle.walk_parts.specs.Priced.{paid_costs}
use Rattle.persistent_blocks.specs.PersistentPart.{IsPrepaidBound, IsPersistentPart}
use Rattle.persistent_blocks.specs.Regions.{IsPersistent, AreRegionEvents}
use Rattle.persistent_blocks.specs.Inner.Paid.{is_paid, sets_in, ArePrices}
use Rattle.persistent_blocks.proofs.PaidTable.{place_is, sets_all}

-- a node has one item
pub one_item : (g : Graph) (n : Nest) → IsNested g n → (v : ℕ) (i j : Item) → IsItem n v i
    → IsItem n v j → i ≡ j
one_item g n N v (Node y) (Node z) a b = ap Node (a.0 ∙ sym b.0)
one_item g n N v (Node y) (Loop r) a b = absurd (a.1 r b.0 b.1)
one_item g n N v (Loop r) (Node y) a b = absurd (b.1 r a.0 a.1)
one_item g n N v (Loop r) (Loop s) a b = ap Loop (N.one_head r s a.0 b.0 (sym a.1 ∙ b.1))

module _ (p : Platform) (g : CodeGraph) (n : CodeNest) (e : Events)
    (some_sets : 1 ≤ p.sets) (few_sets : p.sets ≤ 512)
    (R : AreRegionEvents (graph_of g) (accesses p (places_of g).address) (nest_of n) e) where
  abbrev t : TaskGraph
  t = task_graph g n

  abbrev a : Accesses
  a = accesses p (places_of g).address

  -- the set of a persistent pair is one of the platform
  own_set : (r s m : ℕ) → IsPersistent a (nest_of n) r s m → s < p.sets
  own_set r s m P = subst (λ k. k < p.sets) P.own (omega arith)

  pays_below : (u v s : ℕ) → Edge (graph_of g) u v → Pays (graph_of g) e u v s → s < p.sets
  pays_below u v s at pays =
      let l = (R.edges u v s pays.0 at).0 pays.1 in own_set l.region s pays.0 l.pair

  starts_below : (s : ℕ) → PaysAtStart e.at_start s → s < p.sets
  starts_below s pays =
      let l = (R.start s pays.0).0 pays.1 in own_set l.region s pays.0 l.pair

  module _ (table : List (List ℕ)) (start : List ℕ) (hits : List Bool)
      (edges : CountsPayments (graph_of g) e (is_paid (graph_of g) table))
      (starts : (s : ℕ) → IsTrue (has start s) ↔ PaysAtStart e.at_start s) where
    abbrev pub paid : Payments
    paid = record { edge = is_paid (graph_of g) table; start = has start }

    -- the price of the start
    pub start_is : p.miss * sets_in start ≡ start_price p paid
    start_is =
        ap (λ k. p.miss * k) (sets_all start p.sets few_sets
        (λ s past there. let below = starts_below s ((starts s).0 there) in omega arith))

    -- and of an edge, by the table of prices
    edge_is : (prices : List ℕ) → ArePrices p.miss table prices
        → length table ≡ 2 * (graph_of g).size → ((u : ℕ) → length ((graph_of g).next u) ≤ 2)
        → (u v : ℕ) → Edge (graph_of g) u v
        → table_price (graph_of g) prices u v ≡ price p paid u v
    edge_is prices A count few u v at =
        let k = price_place (slice_get ((graph_of g).next u) 0) v in
        let place = place_is (graph_of g) u v at (few u) in
        let within : 2 * u + k < length table = omega (arith, at.0, place.1, place.3, count) in
        A (2 * u + k) within
        ∙ ap (λ c. p.miss * c) (sets_all (sets_at table (2 * u + k)) p.sets few_sets
        (λ s past there.
        let below = pays_below u v s at ((edges u v s at).0 there) in omega arith))

    agree : (prices : List ℕ) → ArePrices p.miss table prices
        → length table ≡ 2 * (graph_of g).size → ((u : ℕ) → length ((graph_of g).next u) ≤ 2)
        → Agree (graph_of g) (priced_costs p g (counted hits) prices)
        (paid_costs p t paid (counted hits))
    agree prices A count few = record {
      edge = λ u v at. refl;
      price = λ u v at. edge_is prices A count few u v at;
      answers = λ u. refl;
      end = λ u lt. refl;
    }

    module _ (N : IsNested (graph_of g) (nest_of n)) (prices : List ℕ)
        (A : ArePrices p.miss table prices) (count : length table ≡ 2 * (graph_of g).size)
        (few : (u : ℕ) → length ((graph_of g).next u) ≤ 2)
        (H : CountsPrepaidHits (graph_of g) e (counted hits)) where
      -- the bound with the table's prices and that of the start is the prepaid bound
      pub found : (cycles : ℕ) (nodes loops : List ℕ)
          → IsBound (graph_of g) (nest_of n) (priced_costs p g (counted hits) prices) cycles nodes loops
          → IsPrepaidBound p t e (cycles + p.miss * sets_in start)
      found cycles nodes loops B = record {
        is_hit = counted hits;
        hits = H;
        pay = paid;
        edges = edges;
        start = starts;
        potentials = listed_potentials nodes loops;
        least = least (graph_of g) (nest_of n) (priced_costs p g (counted hits) prices)
            (paid_costs p t paid (counted hits)) (agree prices A count few)
            (listed_potentials nodes loops) B.least;
        bound_is = λ i is.
            ap (λ k. k + p.miss * sets_in start) (B.first i is)
            ∙ ap (λ k. item_potential (listed_potentials nodes loops) i + k) start_is;
      }

      -- and one that is too large makes it too large
      pub too_large : IsTooLarge (graph_of g) (nest_of n) (priced_costs p g (counted hits) prices)
          → (bound : ℕ) × IsPrepaidBound p t e bound × (longest_time < bound)
      unfolding greatest_bound
      too_large L = (
        item_potential L.0 L.1 + start_price p paid,
        record {
          is_hit = counted hits;
          hits = H;
          pay = paid;
          edges = edges;
          start = starts;
          potentials = L.0;
          least = least (graph_of g) (nest_of n) (priced_costs p g (counted hits) prices)
              (paid_costs p t paid (counted hits)) (agree prices A count few) L.0 L.2;
          bound_is = λ i is.
              ap (λ j. item_potential L.0 j + start_price p paid)
              (one_item (graph_of g) (nest_of n) N (graph_of g).first L.1 i L.3 is);
        },
        let most : longest_time < item_potential L.0 L.1 = L.4 in omega (arith, most),
      )

  module _ (table : List (List ℕ)) (hits : List Bool)
      (edges : CountsPayments (graph_of g) e (is_paid (graph_of g) table))
      (H : CountsPrepaidHits (graph_of g) e (counted hits)) where
    -- the part with the sets of the hits and of the nodes
    pub part_found : (part : Part) (useful : List (List ℕ)) → IsPrepaidBound p t e part.bound
        → IsSetOf part.evicting (IsEcb (graph_of g) a)
        → IsSetOf part.useful (λ s. (z : ℕ) × (z < (graph_of g).size)
        × IsTrue (slice_index_or hits z false) × (a.set z ≡ s))
        → AreUsefulUnpaid (graph_of g) a (λ z. IsTrue (slice_index_or hits z false))
        (λ u v s. IsTrue (is_paid (graph_of g) table u v s)) useful
        → IsPersistentPart p t part (λ y. has (sets_at useful y))
    part_found part useful B E U S = record {
      events = e;
      are = R;
      bound = B;
      evicting = E;
      useful_sets = record {
        size = U.size;
        numbers = λ s. (
          λ there.
              let z = (U.numbers s).0 there in
              (prepaid_ucb_law (graph_of g) e s).1
              (z.0, z.1, (H z.0 z.1).0 z.2, own z.0 s z.3),
          λ y.
              let z = (prepaid_ucb_law (graph_of g) e s).0 y in
              (U.numbers s).1 (z.0, z.1, (H z.0 z.1).1 z.2, back z.0 s z.3),
        );
      };
      at_nodes = λ y s lt.
          let law = counted_prepaid_law (graph_of g) e (counted hits)
          (is_paid (graph_of g) table) H edges y s in
          let found = subst (λ (x : Accesses).
          AreUsefulUnpaid (graph_of g) x (λ z. IsTrue (slice_index_or hits z false))
          (λ u v s. IsTrue (is_paid (graph_of g) table u v s)) useful) (sym R.accesses) S in
          let each = found.each y s lt in
          (λ there. law.0 (each.0 there), λ is. each.1 (law.1 is));
    }
      where
        own : (z s : ℕ) → a.set z ≡ s → e.set z ≡ s
        own z s h = ap (λ (x : Accesses). x.set z) R.accesses ∙ h

        back : (z s : ℕ) → e.set z ≡ s → a.set z ≡ s
        back z s h = ap (λ (x : Accesses). x.set z) (sym R.accesses) ∙ h
