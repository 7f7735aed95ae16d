-- Without regions a persistent part is the plain one: nothing is brought and no edge pays.
use Rattle.std.proofs.Common.{◌≡◌, ◌↔◌, ℕ, ◌*◌, Bool, false, refl, sym, ap}
use Rattle.std.proofs.Common.{◌∙◌, arith, mul-zero}
use Rattle.std.proofs.lemmas.Bool.{false≢true}
use Rattle.crpd_base.specs.declared.data.Part.{Part}
use Rattle.crpd_base.specs.declared.data.Platform.{Platform}
use Rattle.crpd_base.specs.Sum.{one_if}
use Rattle.crpd_base.proofs.Options.{none_some}
use Rattle.crpd_base.proofs.Sums.{sum_zero}
use Rattle.flat_graph.specs.Graph.{Graph, IsGraph}
use Rattle.icache.specs.Accesses.{Accesses, accesses}
use Rattle.loop_regions.specs.Nest.{Nest, Item, Node, Loop, IsItem}
use Rattle.loop_regions.specs.Potentials.{Potentials, edge_costs, item_potential}
use Rattle.loop_regions.specs.TaskGraph.{TaskGraph, node_code_of, answering}
use Rattle.must_cache.specs.Events.{accesses_alone}
use Rattle.must_cache.specs.Sure.{CountsSureHits}
use Rattle.must_cache.proofs.PrepaidLaws.{prepaid_sure}
use Rattle.useful_sets.specs.Unpaid.{UsefulPrepaid}
use Rattle.useful_sets.specs.Useful.{Useful}
use Rattle.useful_sets.proofs.UnpaidLaws.{useful_prepaid_law}
use Rattle.exec_bound.specs.Least.{AreLeastPotentials}
use Rattle.exec_bound.proofs.Agree.{Agree, least}
use Rattle.walk_parts.specs.Credit.{Payments, count_sets}
use Rattle.walk_parts.specs.Priced.{paid_costs}
use Rattle.persistent_blocks.specs.Laws.{NoRegions, IsPlainPart}
use Rattle.persistent_blocks.specs.PersistentPart.{IsPersistentPart, IsPrepaidBound}
use Rattle.persistent_blocks.specs.Regions.{AreRegionEvents}
use Rattle.persistent_blocks.proofs.OnePart.{SameEvents, other_way, events_agree, useful_too}
use Rattle.persistent_blocks.proofs.OnePart.{same_prepaid_bound}

-- the accesses alone are the events of no regions
are_alone : (g : Graph) (a : Accesses) (n : Nest) → n.size ≡ 0
    → AreRegionEvents g a n (accesses_alone a)
are_alone g a n none = record {
  accesses = refl;
  edges = λ u v s m edge. (
    λ e. absurd (none_some e),
    λ loads. absurd (let l = loads.pair.region in omega (arith, l, none)),
  );
  start = λ s m. (
    λ e. absurd (none_some e),
    λ loads. absurd (let l = loads.pair.region in omega (arith, l, none)),
  );
}

-- nothing is paid for
abbrev unpaid : Payments
unpaid = record { edge = λ u v s. false; start = λ s. false }

no_price : (p : Platform) → p.miss * count_sets (λ s. false) p.sets ≡ 0
no_price p =
    ap (λ k. p.miss * k) (sum_zero (λ s. one_if false) p.sets (λ k l. refl)) ∙ mul-zero p.miss

module _ (p : Platform) (t : TaskGraph) (G : IsGraph t.graph) where
  abbrev g : Graph
  g = t.graph

  abbrev a : Accesses
  a = accesses p t.places.address

  module _ (is_hit : ℕ → Bool) (q : Potentials) (H : CountsSureHits g a is_hit)
      (L : AreLeastPotentials g t.nest (edge_costs p (node_code_of t) (answering t) is_hit) q) where
    -- the plain costs have these prices
    free : Agree g (edge_costs p (node_code_of t) (answering t) is_hit) (paid_costs p t unpaid is_hit)
    free = record {
      edge = λ u v edge. refl;
      price = λ u v edge. sym (no_price p);
      answers = λ u. refl;
      end = λ u l. refl;
    }

    -- so the plain bound is the prepaid one of the accesses alone
    alone_bound : (i : Item) → ((j : Item) → IsItem t.nest g.first j
        → item_potential q i ≡ item_potential q j)
        → IsPrepaidBound p t (accesses_alone a) (item_potential q i)
    alone_bound i one = record {
      is_hit = is_hit;
      hits = λ y l.
          let sure = prepaid_sure g a y (a.set y) (a.block y) in
          (λ h. sure.1 ((H y l).0 h), λ h. (H y l).1 (sure.0 h));
      pay = unpaid;
      edges = λ u v s edge. (λ h. absurd (false≢true h), λ pays. absurd (none_some pays.1));
      start = λ s. (λ h. absurd (false≢true h), λ pays. absurd (none_some pays.1));
      potentials = q;
      least = least g t.nest (edge_costs p (node_code_of t) (answering t) is_hit)
          (paid_costs p t unpaid is_hit) free q L;
      bound_is = λ j item.
          let is = one j item in let price = no_price p in omega (arith, is, price);
    }

module _ (p : Platform) (t : TaskGraph) (part : Part) (useful : ℕ → ℕ → Bool) (G : IsGraph t.graph)
    (none : t.nest.size ≡ 0) (P : IsPersistentPart p t part useful) where
  abbrev uses : Accesses
  uses = accesses p t.places.address

  agree : SameEvents t.graph P.events (accesses_alone uses)
  agree =
      events_agree t.graph uses t.nest P.events (accesses_alone uses) P.are
      (are_alone t.graph uses t.nest none)

  plain_useful : (y s : ℕ) → UsefulPrepaid t.graph P.events y s ↔ Useful t.graph uses y s
  plain_useful y s =
      let plain = useful_prepaid_law t.graph uses y s in (
        λ u. plain.0 (useful_too t.graph P.events (accesses_alone uses) agree y s u),
        λ u. useful_too t.graph (accesses_alone uses) P.events
            (other_way t.graph P.events (accesses_alone uses) agree) y s (plain.1 u),
      )

  -- a node has one item, itself
  only_item : (q : Potentials) (i j : Item) → IsItem t.nest t.graph.first i
      → IsItem t.nest t.graph.first j → item_potential q i ≡ item_potential q j
  only_item q (Node y) (Node z) a b = ap q.node (a.0 ∙ sym b.0)
  only_item q (Node y) (Loop r) a b = absurd (let l = b.0 in omega (arith, l, none))
  only_item q (Loop r) j a b = absurd (let l = a.0 in omega (arith, l, none))

  plain_part : IsPlainPart p t part useful
  plain_part = record {
    bound = λ is_hit q i H L item.
        same_prepaid_bound p t P.events (accesses_alone uses) agree G part.bound (item_potential q i)
        P.bound (alone_bound p t G is_hit q H L i (λ j other. only_item q i j item other));
    useful_sets = record {
      size = P.useful_sets.size;
      numbers = λ s. (
        λ h.
            let u = (P.useful_sets.numbers s).0 h in
            (u.0, u.1, (plain_useful u.0 s).0 u.2),
        λ u. (P.useful_sets.numbers s).1 (u.0, u.1, (plain_useful u.0 s).1 u.2),
      );
    };
    at_nodes = λ y s l. (
      λ h. (plain_useful y s).0 ((P.at_nodes y s l).0 h),
      λ u. (P.at_nodes y s l).1 ((plain_useful y s).1 u),
    );
  }

pub no_regions : NoRegions
no_regions p t part useful G none P = plain_part p t part useful G none P
