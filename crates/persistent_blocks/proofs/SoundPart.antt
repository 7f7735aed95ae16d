-- A persistent part is the bound and the sets of a sound part.
use Rattle.std.proofs.Common.{◌≡◌, ◌≢◌, ℕ, ◌*◌, ◌<◌, ◌≤◌, Bool, true, [], ◌∷◌}
use Rattle.std.proofs.Common.{Some, IsTrue, refl, sym, ap, ◌∙◌, subst, inl, inr, ⊎_elim, arith}
use Rattle.std.proofs.Common.{eq-eqb, ne_eqb, mul-zero}
use Rattle.std.proofs.lemmas.Bool.{cases_Bool, cases_eq, false≢true}
use Rattle.crpd_base.specs.declared.data.Part.{Part}
use Rattle.crpd_base.specs.declared.data.Platform.{Platform}
use Rattle.crpd_base.specs.Sum.{one_if}
use Rattle.crpd_base.proofs.Options.{none_or_some, same_or_not, some_injective}
use Rattle.crpd_base.proofs.Sums.{sum_zero}
use Rattle.flat_graph.specs.Graph.{Graph, Edge, IsGraph}
use Rattle.icache.specs.Accesses.{Accesses, accesses}
use Rattle.evict_sets.proofs.WalkLaws.{first_here, first_on}
use Rattle.loop_regions.specs.Nest.{IsNested}
use Rattle.loop_regions.specs.Potentials.{IsEntry, PricesEnter, rest}
use Rattle.loop_regions.specs.TaskGraph.{TaskGraph}
use Rattle.loop_regions.proofs.Potential.{entry_law}
use Rattle.must_cache.specs.Events.{Events, accesses_in, or_before, after_node, last_event}
use Rattle.must_cache.specs.Prepaid.{Prepaid, PrepaidAfter, Pays}
use Rattle.walk_parts.specs.Credit.{After, ArePrepaid, AreUseful, count_sets}
use Rattle.walk_parts.specs.PaidParts.{HasPaid, paid_part}
use Rattle.walk_parts.specs.Priced.{paid_costs}
use Rattle.walk_parts.proofs.PaidParts.{sound}
use Rattle.walk_parts.proofs.Priced.{potentials_cover_prices}
use Rattle.persistent_blocks.specs.Laws.{PersistentPartIsSound}
use Rattle.persistent_blocks.specs.PersistentPart.{IsPersistentPart, IsPrepaidBound}

module _ (g : Graph) (e : Events) where
  -- what an edge leaves in a set for which it does not pay is there after the edge's source
  unpaid_after : (u v s m : ℕ) → Edge g u v → (Pays g e u v s → ⊥) → Prepaid g e v s m
      → PrepaidAfter g e u s m
  unpaid_after u v s m edge unpaid holds before walk =
      let there : or_before (e.brings u v s) (after_node e s u (last_event e s before u)) ≡ Some m =
      holds (u ∷ before) (edge, walk) in
      ⊎_elim
      (λ none.
      sym (ap (λ o. or_before o (after_node e s u (last_event e s before u))) none) ∙ there)
      (λ (some : (k : ℕ) × (e.brings u v s ≡ Some k)).
      let is : Some some.0 ≡ Some m =
      sym (ap (λ o. or_before o (after_node e s u (last_event e s before u))) some.1) ∙ there in
      ⊎_elim (λ held. held ∙ is)
      (λ lacks. absurd (unpaid (some.0, some.1, λ held. lacks (held before walk))))
      (same_or_not (after_node e s u (last_event e s before u)) (Some some.0)))
      (none_or_some (e.brings u v s))

  -- what a set holds after a node is the node's own block, or was there before it
  after_parts : (u s m : ℕ) → IsGraph g → u < g.size → PrepaidAfter g e u s m
      → After (accesses_in e) (Prepaid g e) u s m
  after_parts u s m G lt held =
      ⊎_elim
      (λ (same : e.set u ≡ s).
      let walk = G.reached u lt in
      let own : after_node e s u (last_event e s walk.0 u) ≡ Some (e.block u) =
      rw (eq-eqb (e.set u) s same) refl in
      inl (same, some_injective (sym own ∙ held walk.0 walk.1)))
      (λ (ne : e.set u ≢ s).
      inr (
        ne,
        λ before walk.
            let on : after_node e s u (last_event e s before u) ≡ last_event e s before u =
            rw (ne_eqb (e.set u) s ne) refl in
            sym on ∙ held before walk,
      ))
      (cases_eq (e.set u) s)

module _ (p : Platform) (t : TaskGraph) (part : Part) (useful : ℕ → ℕ → Bool)
    (some_sets : 1 ≤ p.sets) (G : IsGraph t.graph) (N : IsNested t.graph t.nest)
    (P : IsPersistentPart p t part useful) where
  abbrev g : Graph
  g = t.graph

  abbrev e : Events
  e = P.events

  abbrev a : Accesses
  a = accesses p t.places.address

  abbrev B : IsPrepaidBound p t e part.bound
  B = P.bound

  pub prepaid_states : ArePrepaid g (accesses_in e) B.pay (Prepaid g e)
  prepaid_states =
      record {
        first = λ s m h. (B.start s).1 (m, h [] refl);
        edges = λ u v s m edge h. elim (cases_Bool (B.pay.edge u v s)) [
          | inl paid ↦ inl paid
          | inr unpaid ↦
              inr (after_parts g e u s m G edge.0
              (unpaid_after g e u v s m edge
              (λ pays. false≢true (sym unpaid ∙ (B.edges u v s edge).1 pays)) h))
        ];
      }

  useful_states : AreUseful g (accesses_in e) B.pay B.is_hit useful
  useful_states =
      record {
        own = λ u l h. (P.at_nodes u (e.set u) l).1 (
          u,
          record {
            later = [];
            goes_on = l;
            first = first_here (accesses_in e) (e.set u) u [] refl;
            unpaid = tt;
            hits = (B.hits u l).0 h;
          },
        );
        edges = λ u v s edge ne unpaid h.
            let on = (P.at_nodes v s (G.edges u v edge)).0 h in
            (P.at_nodes u s edge.0).1 (
              on.0,
              record {
                later = v ∷ on.1.later;
                goes_on = (edge, on.1.goes_on);
                first = first_on (accesses_in e) s u (v ∷ on.1.later) ne ∙ on.1.first;
                unpaid = λ off. (
                  λ pays. false≢true (sym unpaid ∙ (B.edges u v s edge).1 pays),
                  on.1.unpaid,
                );
                hits = on.1.hits;
              },
            );
      }

  -- an edge that pays for a set enters a region
  pays_entering : (u v s : ℕ) → Edge g u v → IsTrue (B.pay.edge u v s) → IsEntry t.nest u v
  pays_entering u v s edge paid =
      let pays = (B.edges u v s edge).0 paid in
      let loads = (P.are.edges u v s pays.0 edge).0 pays.1 in
      let below = loads.pair.region in (
        loads.region,
        below,
        loads.from,
        N.one_entry loads.region u v below edge loads.from loads.into,
      )

  prices_enter : PricesEnter g t.nest (paid_costs p t B.pay B.is_hit)
  prices_enter u v edge none =
      let each : (s : ℕ) → one_if (B.pay.edge u v s) ≡ 0 =
      λ s. ⊎_elim (λ paid. absurd (none (pays_entering u v s edge paid))) (λ unpaid. ap one_if unpaid)
      (cases_Bool (B.pay.edge u v s)) in
      let none_paid : count_sets (B.pay.edge u v) p.sets ≡ 0 =
      sum_zero (λ s. one_if (B.pay.edge u v s)) p.sets (λ s l. each s) in
      ap (λ n. p.miss * n) none_paid ∙ mul-zero p.miss

  has_paid : HasPaid p t B.pay B.is_hit (rest t.nest B.potentials) useful part (Prepaid g e)
  has_paid =
      record {
        some_sets = some_sets;
        graph = G;
        states = subst (λ x. ArePrepaid g x B.pay (Prepaid g e)) P.are.accesses prepaid_states;
        hits = subst (λ (x : Accesses). (y : ℕ) → y < g.size → B.is_hit y ≡ true
            → Prepaid g e y (x.set y) (x.block y)) P.are.accesses (λ y l h. (B.hits y l).0 h);
        covers = potentials_cover_prices p t B.pay B.is_hit B.potentials part.bound N
            (entry_law g t.nest (paid_costs p t B.pay B.is_hit) N prices_enter) B.least.meets
            (λ i is. let b = B.bound_is i is in omega (arith, b));
        useful_sets =
            subst (λ x. AreUseful g x B.pay B.is_hit useful) P.are.accesses useful_states;
        evicts = λ y l. (P.evicting.numbers (a.set y)).1 (y, l, refl);
        all = λ y s l h. (P.useful_sets.numbers s).1 (y, l, (P.at_nodes y s l).0 h);
      }

pub persistent_part_is_sound : PersistentPartIsSound
persistent_part_is_sound p t part useful some G N P =
    record {
      walks = paid_part p t P.bound.pay P.bound.is_hit (rest t.nest P.bound.potentials) useful part;
      sound = sound p t P.bound.pay P.bound.is_hit (rest t.nest P.bound.potentials) useful part
          (Prepaid t.graph P.events) (has_paid p t part useful some G N P);
      part_is = refl;
      useful_is = refl;
    }
