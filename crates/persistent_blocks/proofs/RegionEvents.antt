-- What the tables of regions say of the edges: the events of the regions.
use Rattle.std.proofs.Common.{◌≡◌, ◌⊎◌, ◌↔◌, ℕ, zero, suc, ◌<◌, ◌≤◌, Bool, true, false}
use Rattle.std.proofs.Common.{if◌then◌else◌, List, length, Option, Some, None, IsTrue, refl, sym}
use Rattle.std.proofs.Common.{ap, ◌∙◌, subst, inl, inr, arith, eq-eqb, slice_get}
use Rattle.std.proofs.lemmas.Bool.{cases_Bool, false≢true, eqb-true, or_cases, or_left, or_right}
use Rattle.std.proofs.lemmas.Option.{slice_get_within}
use Rattle.crpd_base.proofs.Elements.{contains_at}
use Rattle.crpd_base.proofs.Options.{some_injective, none_some, none_or_some}
use Rattle.crpd_base.specs.declared.data.Platform.{Platform}
use Rattle.flat_graph.specs.Graph.{Graph, Edge, IsGraph}
use Rattle.flat_graph.specs.CodeGraph.{CodeGraph, graph_of, places_of}
use Rattle.icache.specs.Accesses.{Accesses, accesses}
use Rattle.icache.specs.Cache.{Cache, held, is_block}
use Rattle.loop_regions.specs.CodeNest.{CodeNest, nest_of}
use Rattle.loop_regions.specs.EdgeKinds.{item_by}
use Rattle.loop_regions.specs.Nest.{Nest, IsNested, IsItem}
use Rattle.must_cache.specs.States.{state_at}
use Rattle.persistent_blocks.specs.Regions.{EdgeLoads, HeadLoads, AreRegionEvents}
use Rattle.persistent_blocks.specs.Inner.Brought.{is_next, headed, unless_round, entered, block_in}
use Rattle.persistent_blocks.specs.Inner.Brought.{region_brings, region_start, region_events}
use Rattle.persistent_blocks.specs.Inner.Noted.{ArePersistentPairs}

-- a successor by its number
pub block_is : (o : Option ℕ) (v : ℕ) → IsTrue (is_block o v) → o ≡ Some v
block_is None v t = absurd (false≢true t)
block_is (Some x) v t = ap Some (eqb-true x v t)

is_itself : (o : Option ℕ) (v : ℕ) → o ≡ Some v → IsTrue (is_block o v)
is_itself o v e = rw e (eq-eqb v v refl)

-- the place of a successor among at most two
pub place_of : (g : Graph) (u v : ℕ) → Edge g u v → length (g.next u) ≤ 2
    → (slice_get (g.next u) 0 ≡ Some v) ⊎ (slice_get (g.next u) 1 ≡ Some v)
place_of g u v e few =
    let k = contains_at (g.next u) v e.1 in
    let lt = slice_get_within (g.next u) k.0 v k.1 in
    at k.0 k.1 (omega arith)
  where
    at : (k : ℕ) → slice_get (g.next u) k ≡ Some v → k < 2
        → (slice_get (g.next u) 0 ≡ Some v) ⊎ (slice_get (g.next u) 1 ≡ Some v)
    at zero is lt = inl is
    at (suc zero) is lt = inr is
    at (suc (suc k)) is lt = absurd (omega arith)

edge_next : (g : Graph) (u v : ℕ) → Edge g u v → length (g.next u) ≤ 2 → is_next g u v ≡ true
edge_next g u v e few =
    let a = is_block (slice_get (g.next u) 0) v in
    let b = is_block (slice_get (g.next u) 1) v in
    elim (place_of g u v e few) [
      | inl first ↦ or_left a b (is_itself (slice_get (g.next u) 0) v first)
      | inr second ↦ or_right a b (is_itself (slice_get (g.next u) 1) v second)
    ]

module _ (g : Graph) (n : Nest) (heads : List (Option ℕ)) where
  -- if no edge to a successor enters a region, none from the node does
  pub none_entered : (u v : ℕ)
      → ((w : ℕ) → slice_get (g.next u) 0 ≡ Some w → entered g n heads u w ≡ None)
      → ((w : ℕ) → slice_get (g.next u) 1 ≡ Some w → entered g n heads u w ≡ None)
      → entered g n heads u v ≡ None
  none_entered u v first second = elim (cases_Bool (is_next g u v)) [
    | inl t ↦
        let a = is_block (slice_get (g.next u) 0) v in
        let b = is_block (slice_get (g.next u) 1) v in
        elim (or_cases a b t) [
          | inl l ↦ first v (block_is (slice_get (g.next u) 0) v l)
          | inr r ↦ second v (block_is (slice_get (g.next u) 1) v r)
        ]
    | inr f ↦ rw f refl
  ]

  -- the region that an edge enters
  pub entered_some : (u v r : ℕ) → is_next g u v ≡ true → headed heads v ≡ Some r
      → n.holds r u ≡ false → entered g n heads u v ≡ Some r
  entered_some u v r next head out =
      let one : entered g n heads u v ≡ unless_round n u (headed heads v) = rw next refl in
      let two : unless_round n u (Some r) ≡ Some r = rw out refl in
      one ∙ ap (unless_round n u) head ∙ two

  entered_is : (u v r : ℕ) → entered g n heads u v ≡ Some r
      → (headed heads v ≡ Some r) × (n.holds r u ≡ false)
  entered_is u v r e = by (is_next g u v) (headed heads v) e
    where
      inside : (q : ℕ) (b : Bool) → n.holds q u ≡ b → (if b then None else Some q) ≡ Some r
          → (Some q ≡ Some r) × (n.holds r u ≡ false)
      inside q true is h = absurd (none_some h)
      inside q false is h = (h, ap (λ x. n.holds x u) (sym (some_injective h)) ∙ is)

      by : (b : Bool) (o : Option ℕ) → (if b then unless_round n u o else None) ≡ Some r
          → (o ≡ Some r) × (n.holds r u ≡ false)
      by true None h = absurd (none_some h)
      by true (Some q) h = inside q (n.holds q u) refl h
      by false o h = absurd (none_some h)

-- the block that a region brings
block_some : (blocks : List Cache) (o : Option ℕ) (s m : ℕ) → block_in blocks o s ≡ Some m
    → (r : ℕ) × (o ≡ Some r) × (held (state_at blocks r) s ≡ Some m)
block_some blocks None s m e = absurd (none_some e)
block_some blocks (Some r) s m e = (r, refl, e)

module _ (p : Platform) (g : CodeGraph) (n : CodeNest) (heads : List (Option ℕ))
    (blocks : List Cache) (G : IsGraph (graph_of g)) (N : IsNested (graph_of g) (nest_of n))
    (few : (u : ℕ) → length ((graph_of g).next u) ≤ 2)
    (H : (y : ℕ) → y < (graph_of g).size → IsItem (nest_of n) y (item_by (headed heads y) y))
    (P : ArePersistentPairs (accesses p (places_of g).address) (nest_of n) blocks) where
  abbrev a : Accesses
  a = accesses p (places_of g).address

  abbrev nest : Nest
  nest = nest_of n

  head_is : (y r : ℕ) → y < (graph_of g).size → headed heads y ≡ Some r
      → (r < nest.size) × (y ≡ nest.head r)
  head_is y r lt e = subst (λ o. IsItem nest y (item_by o y)) e (H y lt)

  head_found : (y r : ℕ) → y < (graph_of g).size → r < nest.size → y ≡ nest.head r
      → headed heads y ≡ Some r
  head_found y r lt within is = elim (none_or_some (headed heads y)) [
    | inl none ↦
        let i : IsItem nest y (item_by None y) = subst (λ o. IsItem nest y (item_by o y)) none
        (H y lt) in
        absurd (i.1 r within is)
    | inr some ↦
        let i = head_is y some.0 lt some.1 in
        some.1 ∙ ap Some (N.one_head some.0 r i.0 within (sym i.1 ∙ is))
  ]

  loads : (u v s m : ℕ) → Edge (graph_of g) u v
      → (region_brings (graph_of g) nest heads blocks u v s ≡ Some m) ↔ EdgeLoads a nest u v s m
  loads u v s m e = (
    λ h.
        let b = block_some blocks (entered (graph_of g) nest heads u v) s m h in
        let i = entered_is (graph_of g) nest heads u v b.0 b.1 in
        let d = head_is v b.0 (G.edges u v e) i.0 in
        record {
          region = b.0;
          into = subst (λ y. IsTrue (nest.holds b.0 y)) (sym d.1) (N.holds_head b.0 d.0);
          from = i.1;
          pair = (P b.0 s m).0 b.2;
        },
    λ l.
        let r = l.region in
        let within = l.pair.region in
        let at = N.one_entry r u v within e l.from l.into in
        let found = head_found v r (G.edges u v e) within at in
        let in_it = entered_some (graph_of g) nest heads u v r
        (edge_next (graph_of g) u v e (few u)) found l.from in
        ap (λ o. block_in blocks o s) in_it ∙ (P r s m).1 l.pair,
  )

  starts : (s m : ℕ) → (region_start (graph_of g) heads blocks s ≡ Some m)
      ↔ HeadLoads a nest (graph_of g).first s m
  starts s m = (
    λ h.
        let b = block_some blocks (headed heads (graph_of g).first) s m h in
        let d = head_is (graph_of g).first b.0 G.first b.1 in
        record { region = b.0; head = d.1; pair = (P b.0 s m).0 b.2 },
    λ l.
        let found = head_found (graph_of g).first l.region G.first l.pair.region l.head in
        ap (λ o. block_in blocks o s) found ∙ (P l.region s m).1 l.pair,
  )

  pub region_are : AreRegionEvents (graph_of g) a nest (region_events p g n heads blocks)
  region_are = record { accesses = refl; edges = loads; start = starts }
