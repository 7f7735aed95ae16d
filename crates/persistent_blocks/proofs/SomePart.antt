-- It cannot be refuted that a task has a persistent part.
use Rattle.std.proofs.Common.{◌≡◌, ◌↔◌, ℕ, ◌+◌, ◌<◌, Bool, false, List}
use Rattle.std.proofs.Common.{IsTrue, is_some, sym, ap, ◌∙◌, inl, inr, arith}
use Rattle.std.proofs.lemmas.Bool.{cases_lt, false≢true}
use Rattle.crpd_base.specs.declared.data.Part.{Part}
use Rattle.crpd_base.specs.declared.data.Platform.{Platform}
use Rattle.crpd_base.specs.Ranges.{IsPlatform}
use Rattle.crpd_base.specs.Sets.{IsSetOf}
use Rattle.crpd_base.proofs.Classical.{NotNot, a_function, a_test_below, mapped}
use Rattle.flat_graph.specs.Graph.{Graph, Edge, IsGraph}
use Rattle.icache.specs.Accesses.{Accesses, accesses}
use Rattle.evict_sets.specs.Evicting.{IsEcb}
use Rattle.loop_regions.specs.Nest.{IsNested}
use Rattle.loop_regions.specs.Potentials.{Potentials, item_potential}
use Rattle.loop_regions.specs.Stated.{IsOnCycle}
use Rattle.loop_regions.specs.TaskGraph.{TaskGraph}
use Rattle.loop_regions.proofs.Potential.{item_law}
use Rattle.must_cache.specs.Events.{Events, accesses_in}
use Rattle.must_cache.specs.Prepaid.{IsPrepaidHit, CountsPrepaidHits, Pays, CountsPayments}
use Rattle.useful_sets.specs.Unpaid.{UsefulPrepaid}
use Rattle.useful_sets.proofs.UsefulLaws.{found}
use Rattle.exec_bound.specs.Least.{AreLeastPotentials}
use Rattle.exec_bound.proofs.Least.{least_law}
use Rattle.exec_bound.proofs.SomeBound.{one_item}
use Rattle.walk_parts.specs.Credit.{Payments, start_price}
use Rattle.walk_parts.specs.Priced.{paid_costs}
use Rattle.persistent_blocks.specs.Laws.{APersistentPartExists}
use Rattle.persistent_blocks.specs.PersistentPart.{IsPersistentPart, IsPrepaidBound}
use Rattle.persistent_blocks.specs.Regions.{AreRegionEvents}
use Rattle.persistent_blocks.proofs.Computed.{region_events, are_region_events, some_says}
use Rattle.persistent_blocks.proofs.SetWords.{a_set}

-- ---- tests

-- a statement that fails from a bound on, as a test of all numbers
whole : (P : ℕ → Type 0) (n : ℕ) (test : ℕ → Bool) → ((s : ℕ) → P s → s < n)
    → ((k : ℕ) → k < n → IsTrue (test k) ↔ P k) → (s : ℕ) → (b : Bool) × (IsTrue b ↔ P s)
whole P n test low is s = elim (cases_lt s n) [
  | inl l ↦ (test s, is s l)
  | inr ge ↦ (
    false,
    (λ t. absurd (false≢true t), λ h. absurd (let l = low s h in omega (arith, ge, l))),
  )
]

a_whole_test : (P : ℕ → Type 0) (n : ℕ) → ((s : ℕ) → P s → s < n)
    → NotNot ((test : ℕ → Bool) × ((s : ℕ) → IsTrue (test s) ↔ P s))
a_whole_test P n low =
    mapped
    (λ (f : (test : ℕ → Bool) × ((k : ℕ) → k < n → IsTrue (test k) ↔ P k)). (
      λ s. (whole P n f.0 low f.1 s).0,
      λ s. (whole P n f.0 low f.1 s).1,
    ))
    (a_test_below P n)

-- ---- the part of a task

module _ (p : Platform) (t : TaskGraph) (I : IsPlatform p) (G : IsGraph t.graph)
    (N : IsNested t.graph t.nest) (no_cycle : (y : ℕ) → IsOnCycle t.graph t.nest y → ⊥)
    (e : Events) (E : AreRegionEvents t.graph (accesses p t.places.address) t.nest e) where
  abbrev g : Graph
  g = t.graph

  abbrev a : Accesses
  a = accesses p t.places.address

  -- the cache sets that nodes access are below 512
  low : (y s : ℕ) → a.set y ≡ s → s < 512
  low y s own = let some = I.sets.0 in let few = I.sets.1 in omega (arith, own, some, few)

  ecb_low : (s : ℕ) → IsEcb g a s → s < 512
  ecb_low s h = low h.0 s h.2

  useful_low : (y s : ℕ) → UsefulPrepaid g e y s → s < 512
  useful_low y s u =
      let there = found g (accesses_in e) s y u.0 u.1.later u.1.goes_on u.1.first in
      low u.0 s (sym (ap (λ (x : Accesses). x.set u.0) E.accesses) ∙ there.1)

  -- an edge that pays
  abbrev IsPaid : ℕ → ℕ → ℕ → Type 0
  IsPaid u v s = Edge g u v × Pays g e u v s

  paid_low : (u v s : ℕ) → IsPaid u v s → s < 512
  paid_low u v s h =
      let loads = (E.edges u v s h.1.0 h.0).0 h.1.1 in low loads.pair.node s loads.pair.own

  abbrev ArePaid : (ℕ → ℕ → ℕ → Bool) → Type 0
  ArePaid pays =
      (u : ℕ) → u < g.size → (v : ℕ) → v < g.size → (s : ℕ) → IsTrue (pays u v s) ↔ IsPaid u v s

  some_payments : NotNot ((pays : ℕ → ℕ → ℕ → Bool) × ArePaid pays)
  some_payments =
      a_function
      (λ u (f : ℕ → ℕ → Bool).
      (v : ℕ) → v < g.size → (s : ℕ) → IsTrue (f v s) ↔ IsPaid u v s)
      g.size (λ v s. false)
      (λ u l. a_function (λ v (f : ℕ → Bool). (s : ℕ) → IsTrue (f s) ↔ IsPaid u v s) g.size
      (λ s. false) (λ v k. a_whole_test (IsPaid u v) 512 (paid_low u v)))

  abbrev AreUsefulTests : (ℕ → ℕ → Bool) → Type 0
  AreUsefulTests useful =
      (y : ℕ) → y < g.size → (s : ℕ) → IsTrue (useful y s) ↔ UsefulPrepaid g e y s

  some_useful : NotNot ((useful : ℕ → ℕ → Bool) × AreUsefulTests useful)
  some_useful =
      a_function
      (λ y (f : ℕ → Bool). (s : ℕ) → IsTrue (f s) ↔ UsefulPrepaid g e y s) g.size (λ s. false)
      (λ y l. a_whole_test (UsefulPrepaid g e y) 512 (useful_low y))

  abbrev IsUsefulSomewhere : ℕ → Type 0
  IsUsefulSomewhere s = (y : ℕ) × (y < g.size) × UsefulPrepaid g e y s

  some_evicting : NotNot ((words : List ℕ) × IsSetOf words (IsEcb g a))
  some_evicting = a_set (IsEcb g a) ecb_low

  some_words : NotNot ((words : List ℕ) × IsSetOf words IsUsefulSomewhere)
  some_words = a_set IsUsefulSomewhere (λ s h. useful_low h.0 s h.2)

  module _ (hit : ℕ → Bool) (H : CountsPrepaidHits g e hit) (pays : ℕ → ℕ → ℕ → Bool)
      (paid : ArePaid pays) where
    abbrev pay : Payments
    pay = record { edge = pays; start = λ s. is_some (e.at_start s) }

    found_least : (q : Potentials) × AreLeastPotentials g t.nest (paid_costs p t pay hit) q
    found_least = least_law g t.nest (paid_costs p t pay hit) G N no_cycle

    abbrev bound : ℕ
    bound = item_potential found_least.0 (item_law t.nest g.first).0 + start_price p pay

    counts : CountsPayments g e pays
    counts u v s edge =
        let is = paid u edge.0 v (G.edges u v edge) s in
        (λ h. (is.0 h).1, λ h. is.1 (edge, h))

    is_bound : IsPrepaidBound p t e bound
    is_bound =
        let item = item_law t.nest g.first in
        record {
          is_hit = hit;
          hits = H;
          pay = pay;
          edges = counts;
          start = λ s. some_says (e.at_start s);
          potentials = found_least.0;
          least = found_least.1;
          bound_is = λ j is.
              ap (λ k. k + start_price p pay)
              (one_item g t.nest N found_least.0 g.first item.0 j item.1 is);
        }

    module _ (useful : ℕ → ℕ → Bool) (U : AreUsefulTests useful) (evicting words : List ℕ)
        (V : IsSetOf evicting (IsEcb g a)) (W : IsSetOf words IsUsefulSomewhere) where
      abbrev part : Part
      part = record { bound = bound; evicting = evicting; useful = words }

      is_part : IsPersistentPart p t part useful
      is_part =
          record {
            events = e;
            are = E;
            bound = is_bound;
            evicting = V;
            useful_sets = W;
            at_nodes = λ y s l. U y l s;
          }

  unrefuted_part : ((part : Part) (useful : ℕ → ℕ → Bool) → IsPersistentPart p t part useful → ⊥) → ⊥
  unrefuted_part none =
      a_test_below (IsPrepaidHit g e) g.size (λ h.
      some_payments (λ f.
      some_useful (λ u.
      some_evicting (λ v.
      some_words (λ w.
      none (part h.0 h.1 f.0 f.1 u.0 u.1 v.0 w.0 v.1 w.1) u.0
      (is_part h.0 h.1 f.0 f.1 u.0 u.1 v.0 w.0 v.1 w.1))))))

pub a_persistent_part_exists : APersistentPartExists
a_persistent_part_exists p t I G N no_cycle none =
    let a = accesses p t.places.address in
    unrefuted_part p t I G N no_cycle (region_events t.graph a t.nest)
    (are_region_events t.graph a t.nest N) none
