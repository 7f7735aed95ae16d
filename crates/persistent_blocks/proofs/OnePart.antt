-- A task has at most one persistent bound and at most one persistent part: the events of its regions
-- are the same at its edges.
use Rattle.std.proofs.Common.{◌≡◌, ◌↔◌, ℕ, ◌*◌, ◌<◌, ◌==◌, Bool, if◌then◌else◌, List, [], ◌∷◌}
use Rattle.std.proofs.Common.{Option, Some, refl, sym, ap, ◌∙◌, subst, ⊎_elim}
use Rattle.std.proofs.Common.{arith}
use Rattle.std.specs.Cmp.{both_ways}
use Rattle.crpd_base.specs.declared.data.Part.{Part}
use Rattle.crpd_base.specs.declared.data.Platform.{Platform}
use Rattle.crpd_base.specs.Sum.{one_if}
use Rattle.crpd_base.proofs.Options.{none_or_some, none_some}
use Rattle.crpd_base.proofs.Sums.{sum_same}
use Rattle.flat_graph.specs.Graph.{Graph, Edge, IsWalk, IsGraph}
use Rattle.icache.specs.Accesses.{Accesses, accesses}
use Rattle.evict_sets.specs.Evicting.{IsEcb}
use Rattle.loop_regions.specs.Nest.{Nest, Item, Node, Loop, IsItem}
use Rattle.loop_regions.specs.Potentials.{item_potential, edge_costs}
use Rattle.loop_regions.specs.TaskGraph.{TaskGraph, node_code_of, answering}
use Rattle.loop_regions.proofs.Potential.{item_law}
use Rattle.must_cache.specs.Events.{Events, accesses_in, or_before, after_node, last_event}
use Rattle.must_cache.specs.Prepaid.{Prepaid, IsPrepaidHit, PrepaidAfter, Pays, PaysAtStart}
use Rattle.useful_sets.specs.Unpaid.{UsefulUnpaid, UsefulPrepaid}
use Rattle.useful_sets.proofs.UnpaidLaws.{same_unpaid_law}
use Rattle.exec_bound.specs.Least.{AreLeastPotentials}
use Rattle.exec_bound.proofs.Agree.{Agree, least}
use Rattle.walk_parts.specs.Credit.{start_price, count_sets}
use Rattle.walk_parts.specs.Priced.{paid_costs}
use Rattle.persistent_blocks.specs.Laws.{OnePersistentBound, OnePersistentPart, IsSamePart}
use Rattle.persistent_blocks.specs.PersistentPart.{IsPersistentPart, IsPrepaidBound}
use Rattle.persistent_blocks.specs.Regions.{AreRegionEvents}
use Rattle.persistent_blocks.proofs.SetWords.{same_sets, same_numbers}

-- options with the same value are equal
same_option : (x y : Option ℕ) (P : ℕ → Type 0) → ((m : ℕ) → (x ≡ Some m) ↔ P m)
    → ((m : ℕ) → (y ≡ Some m) ↔ P m) → x ≡ y
same_option x y P X Y =
    ⊎_elim
    (λ no_x. ⊎_elim (λ no_y. no_x ∙ sym no_y)
    (λ (some : (m : ℕ) × (y ≡ Some m)).
    absurd (none_some (sym no_x ∙ (X some.0).1 ((Y some.0).0 some.1))))
    (none_or_some y))
    (λ (some : (m : ℕ) × (x ≡ Some m)). some.1 ∙ sym ((Y some.0).1 ((X some.0).0 some.1)))
    (none_or_some x)

-- the events of walks are the same: the accesses, what edges bring, and what is there at the start
pub record SameEvents (g : Graph) (e f : Events) : Type 0 where
  pub accesses : accesses_in e ≡ accesses_in f
  pub brings : (u v s : ℕ) → Edge g u v → e.brings u v s ≡ f.brings u v s
  pub at_start : (s : ℕ) → e.at_start s ≡ f.at_start s

pub other_way : (g : Graph) (e f : Events) → SameEvents g e f → SameEvents g f e
other_way g e f S =
    record {
      accesses = sym S.accesses;
      brings = λ u v s edge. sym (S.brings u v s edge);
      at_start = λ s. sym (S.at_start s);
    }

-- the events of regions are
pub events_agree : (g : Graph) (a : Accesses) (n : Nest) (e f : Events) → AreRegionEvents g a n e
    → AreRegionEvents g a n f → SameEvents g e f
events_agree g a n e f E F =
    record {
      accesses = E.accesses ∙ sym F.accesses;
      brings = λ u v s edge.
          same_option (e.brings u v s) (f.brings u v s) _ (λ m. E.edges u v s m edge)
          (λ m. F.edges u v s m edge);
      at_start = λ s. same_option (e.at_start s) (f.at_start s) _ (E.start s) (F.start s);
    }

module _ (g : Graph) (e f : Events) (S : SameEvents g e f) where
  same_node : (s u : ℕ) (x y : Option ℕ) → x ≡ y → after_node e s u x ≡ after_node f s u y
  same_node s u x y same =
      λ i. if (S.accesses i).set u == s then Some ((S.accesses i).block u) else same i

  same_last : (s : ℕ) (before : List ℕ) (y : ℕ) → IsWalk g (y ∷ before)
      → last_event e s before y ≡ last_event f s before y
  same_last s [] y walk = S.at_start s
  same_last s (u ∷ before) y walk =
      let b = S.brings u y s walk.0 in
      let after = same_node s u (last_event e s before u) (last_event f s before u)
      (same_last s before u walk.1) in
      λ i. or_before (b i) (after i)

  prepaid_too : (y s m : ℕ) → Prepaid g e y s m → Prepaid g f y s m
  prepaid_too y s m h before walk = sym (same_last s before y walk) ∙ h before walk

  after_too : (u s m : ℕ) → PrepaidAfter g e u s m → PrepaidAfter g f u s m
  after_too u s m h before walk =
      sym (same_node s u (last_event e s before u) (last_event f s before u)
      (same_last s before u walk)) ∙ h before walk

  pub hit_too : (y : ℕ) → IsPrepaidHit g e y → IsPrepaidHit g f y
  hit_too y h =
      subst (λ (a : Accesses). Prepaid g f y (a.set y) (a.block y)) S.accesses
      (prepaid_too y (e.set y) (e.block y) h)

  starts_too : (s : ℕ) → PaysAtStart e.at_start s → PaysAtStart f.at_start s
  starts_too s p = (p.0, sym (S.at_start s) ∙ p.1)

pub pays_too : (g : Graph) (e f : Events) → SameEvents g e f → (u v s : ℕ) → Edge g u v
    → Pays g e u v s → Pays g f u v s
pays_too g e f S u v s edge p = (
  p.0,
  sym (S.brings u v s edge) ∙ p.1,
  λ h. p.2 (after_too g f e (other_way g e f S) u s p.0 h),
)

pub useful_too : (g : Graph) (e f : Events) → SameEvents g e f → (y s : ℕ) → UsefulPrepaid g e y s
    → UsefulPrepaid g f y s
useful_too g e f S y s u =
    let R = other_way g e f S in
    subst (λ (a : Accesses). UsefulUnpaid g a (IsPrepaidHit g f) (Pays g f) y s) S.accesses
    ((same_unpaid_law g (accesses_in e) (IsPrepaidHit g e) (IsPrepaidHit g f) (Pays g e) (Pays g f)
    (λ z l. (hit_too g e f S z, hit_too g f e R z))
    (λ v w r edge. (pays_too g e f S v w r edge, pays_too g f e R v w r edge)) y s).0 u)

-- least potentials are the same at nodes and regions
module _ (p : Platform) (t : TaskGraph) (e f : Events) (S : SameEvents t.graph e f)
    (G : IsGraph t.graph) (x y : ℕ) (B : IsPrepaidBound p t e x) (C : IsPrepaidBound p t f y) where
  abbrev g : Graph
  g = t.graph

  abbrev R : SameEvents g f e
  R = other_way g e f S

  same_hits : (u : ℕ) → u < g.size → B.is_hit u ≡ C.is_hit u
  same_hits u l =
      both_ways (B.is_hit u) (C.is_hit u)
      (λ h. (C.hits u l).1 (hit_too g e f S u ((B.hits u l).0 h)))
      (λ h. (B.hits u l).1 (hit_too g f e R u ((C.hits u l).0 h)))

  same_payments : (u v s : ℕ) → Edge g u v → B.pay.edge u v s ≡ C.pay.edge u v s
  same_payments u v s edge =
      both_ways (B.pay.edge u v s) (C.pay.edge u v s)
      (λ h. (C.edges u v s edge).1 (pays_too g e f S u v s edge ((B.edges u v s edge).0 h)))
      (λ h. (B.edges u v s edge).1 (pays_too g f e R u v s edge ((C.edges u v s edge).0 h)))

  same_starts : (s : ℕ) → B.pay.start s ≡ C.pay.start s
  same_starts s =
      both_ways (B.pay.start s) (C.pay.start s)
      (λ h. (C.start s).1 (starts_too g e f S s ((B.start s).0 h)))
      (λ h. (B.start s).1 (starts_too g f e R s ((C.start s).0 h)))

  same_counts : (one two : ℕ → Bool) → ((s : ℕ) → one s ≡ two s)
      → p.miss * count_sets one p.sets ≡ p.miss * count_sets two p.sets
  same_counts one two same =
      ap (λ n. p.miss * n)
      (sum_same (λ s. one_if (one s)) (λ s. one_if (two s)) p.sets (λ s l. ap one_if (same s)))

  costs_agree : Agree g (paid_costs p t B.pay B.is_hit) (paid_costs p t C.pay C.is_hit)
  costs_agree =
      record {
        edge = λ u v edge.
            ap (λ b. (edge_costs p (node_code_of t) (answering t) (λ z. b)).edge u v)
            (same_hits u edge.0);
        price = λ u v edge.
            same_counts (B.pay.edge u v) (C.pay.edge u v) (λ s. same_payments u v s edge);
        answers = λ u. refl;
        end = λ u l.
            ap (λ b. (edge_costs p (node_code_of t) (answering t) (λ z. b)).end u) (same_hits u l);
      }

  also_least : AreLeastPotentials g t.nest (paid_costs p t C.pay C.is_hit) B.potentials
  also_least =
      least g t.nest (paid_costs p t B.pay B.is_hit) (paid_costs p t C.pay C.is_hit) costs_agree
      B.potentials B.least

  same_item : (i : Item) → IsItem t.nest g.first i
      → item_potential B.potentials i ≡ item_potential C.potentials i
  same_item (Node z) is =
      let l : z < g.size = subst (λ k. k < g.size) (sym is.0) G.first in
      let le = also_least.nodes C.potentials z C.least.meets l in
      let ge = C.least.nodes B.potentials z also_least.meets l in
      omega (arith, le, ge)
  same_item (Loop r) is =
      let le = also_least.loops C.potentials r C.least.meets is.0 in
      let ge = C.least.loops B.potentials r also_least.meets is.0 in
      omega (arith, le, ge)

  pub same_prepaid_bound : x ≡ y
  same_prepaid_bound =
      let i = item_law t.nest g.first in
      let potentials = same_item i.0 i.1 in
      let starts : start_price p B.pay ≡ start_price p C.pay =
      same_counts B.pay.start C.pay.start same_starts in
      let one = B.bound_is i.0 i.1 in
      let two = C.bound_is i.0 i.1 in
      omega (arith, potentials, starts, one, two)

pub one_persistent_bound : OnePersistentBound
one_persistent_bound p t one two G B C =
    let S = events_agree t.graph (accesses p t.places.address) t.nest B.events C.events B.are C.are in
    same_prepaid_bound p t B.events C.events S G one two B.bound_is C.bound_is

module _ (p : Platform) (t : TaskGraph) (one two : Part) (useful others : ℕ → ℕ → Bool)
    (G : IsGraph t.graph) (P : IsPersistentPart p t one useful)
    (Q : IsPersistentPart p t two others) where
  abbrev a : Accesses
  a = accesses p t.places.address

  abbrev agree : SameEvents t.graph P.events Q.events
  agree = events_agree t.graph a t.nest P.events Q.events P.are Q.are

  abbrev agree_back : SameEvents t.graph Q.events P.events
  agree_back = other_way t.graph P.events Q.events agree

  bounds : one.bound ≡ two.bound
  bounds = same_prepaid_bound p t P.events Q.events agree G one.bound two.bound P.bound Q.bound

  evicting : one.evicting ≡ two.evicting
  evicting = same_sets one.evicting two.evicting (IsEcb t.graph a) P.evicting Q.evicting

  useful_sets : one.useful ≡ two.useful
  useful_sets =
      same_numbers one.useful two.useful
      (λ s. (y : ℕ) × (y < t.graph.size) × UsefulPrepaid t.graph P.events y s)
      (λ s. (y : ℕ) × (y < t.graph.size) × UsefulPrepaid t.graph Q.events y s)
      (λ s u. (u.0, u.1, useful_too t.graph P.events Q.events agree u.0 s u.2))
      (λ s u. (u.0, u.1, useful_too t.graph Q.events P.events agree_back u.0 s u.2))
      P.useful_sets Q.useful_sets

  same_part : IsSamePart t one two useful others
  same_part =
      record {
        part = λ i. record { bound = bounds i; evicting = evicting i; useful = useful_sets i };
        at_nodes = λ y s l.
            both_ways (useful y s) (others y s)
            (λ h. (Q.at_nodes y s l).1
            (useful_too t.graph P.events Q.events agree y s ((P.at_nodes y s l).0 h)))
            (λ h. (P.at_nodes y s l).1
            (useful_too t.graph Q.events P.events agree_back y s ((Q.at_nodes y s l).0 h)));
      }

pub one_persistent_part : OnePersistentPart
one_persistent_part p t one two useful others G P Q = same_part p t one two useful others G P Q
