-- Useful sets with payments: those without, and what they hold.
use Rattle.std.proofs.Common.{◌≡◌, ◌≢◌, ◌↔◌, ℕ, ◌<◌, List, [], ◌∷◌, Some, None, refl}
use Rattle.std.proofs.Common.{sym, ap, ◌∙◌, subst, ⊎_elim, ne_eqb, IsTrue}
use Rattle.std.proofs.lemmas.Bool.{cases_eq}
use Rattle.crpd_base.proofs.Options.{none_or_some, same_or_not}
use Rattle.flat_graph.specs.Graph.{Graph, Edge, GoesOn}
use Rattle.icache.specs.Accesses.{Accesses, first_access}
use Rattle.must_cache.specs.Sure.{IsSureHit}
use Rattle.must_cache.specs.Events.{Events, accesses_in, accesses_alone, or_before, after_node}
use Rattle.must_cache.specs.Events.{last_event}
use Rattle.must_cache.specs.Prepaid.{Prepaid, IsPrepaidHit, PrepaidAfter, Pays}
use Rattle.must_cache.proofs.PrepaidLaws.{prepaid_sure}
use Rattle.useful_sets.specs.Unpaid.{IsUnpaid, UsefulUnpaid, pays_nothing}
use Rattle.useful_sets.specs.UnpaidLaws.{UnpaidLaw, UsefulPrepaidLaw, PrepaidBlockLaw}
use Rattle.useful_sets.specs.UnpaidLaws.{CountedPrepaidLaw, PrepaidUcbLaw}
use Rattle.useful_sets.proofs.UsefulLaws.{found}
use Rattle.evict_sets.proofs.WalkLaws.{first_here, first_on}

-- a walk from a node that accesses the set itself
pub unpaid_here : (a : Accesses) (pays : ℕ → ℕ → ℕ → Type 0) (s x : ℕ) (later : List ℕ)
    → a.set x ≡ s → IsUnpaid a pays s x later
unpaid_here a pays s x [] same = tt
unpaid_here a pays s x (y ∷ later) same = λ ne. absurd (ne same)

-- no edge pays for anything
none_paid : (a : Accesses) (pays : ℕ → ℕ → ℕ → Type 0) → ((u v s : ℕ) → pays u v s → ⊥)
    → (s y : ℕ) (later : List ℕ) → IsUnpaid a pays s y later
none_paid a pays none s y [] = tt
none_paid a pays none s y (x ∷ later) = λ ne. (none y x s, none_paid a pays none s x later)

-- fewer payments of edges
still_unpaid : (g : Graph) (a : Accesses) (pays others : ℕ → ℕ → ℕ → Type 0) (s y : ℕ)
    (later : List ℕ) → ((u v : ℕ) → Edge g u v → others u v s → pays u v s) → GoesOn g y later
    → IsUnpaid a pays s y later → IsUnpaid a others s y later
still_unpaid g a pays others s y [] fewer on unpaid = tt
still_unpaid g a pays others s y (x ∷ later) fewer on unpaid = λ ne. (
  λ p. (unpaid ne).0 (fewer y x on.0 p),
  still_unpaid g a pays others s x later fewer on.1 (unpaid ne).1,
)

-- of the hits those at nodes count, and of the payments those of edges
pub same_unpaid_law : (g : Graph) (a : Accesses) (hit other : ℕ → Type 0)
    (pays others : ℕ → ℕ → ℕ → Type 0) → ((z : ℕ) → z < g.size → hit z ↔ other z)
    → ((u v s : ℕ) → Edge g u v → pays u v s ↔ others u v s)
    → (y s : ℕ) → UsefulUnpaid g a hit pays y s ↔ UsefulUnpaid g a other others y s
same_unpaid_law g a hit other pays others hits paid y s = (
  λ u. let f = found g a s y u.0 u.1.later u.1.goes_on u.1.first in (
    u.0,
    record {
      later = u.1.later;
      goes_on = u.1.goes_on;
      first = u.1.first;
      unpaid =
          still_unpaid g a pays others s y u.1.later (λ v w e. (paid v w s e).1) u.1.goes_on
          u.1.unpaid;
      hits = (hits u.0 f.0).0 u.1.hits;
    },
  ),
  λ u. let f = found g a s y u.0 u.1.later u.1.goes_on u.1.first in (
    u.0,
    record {
      later = u.1.later;
      goes_on = u.1.goes_on;
      first = u.1.first;
      unpaid =
          still_unpaid g a others pays s y u.1.later (λ v w e. (paid v w s e).0) u.1.goes_on
          u.1.unpaid;
      hits = (hits u.0 f.0).1 u.1.hits;
    },
  ),
)

pub unpaid_law : UnpaidLaw
unpaid_law g a y s = (
  λ u. (
    u.0,
    record { later = u.1.later; goes_on = u.1.goes_on; first = u.1.first; hit = u.1.hits },
  ),
  λ u. (
    u.0,
    record {
      later = u.1.later;
      goes_on = u.1.goes_on;
      first = u.1.first;
      unpaid = none_paid a pays_nothing (λ u v s p. p) s y u.1.later;
      hits = u.1.hit;
    },
  ),
)

-- where nothing is brought, no edge pays
nothing_paid : (g : Graph) (a : Accesses) (u v s : ℕ) → Pays g (accesses_alone a) u v s → ⊥
nothing_paid g a u v s p = let h : None ≡ Some p.0 = p.1 in cc

pub useful_prepaid_law : UsefulPrepaidLaw
useful_prepaid_law g a y s =
    let same = same_unpaid_law g a (IsPrepaidHit g (accesses_alone a)) (IsSureHit g a)
    (Pays g (accesses_alone a)) pays_nothing
    (λ z lt. prepaid_sure g a z (a.set z) (a.block z))
    (λ u v s e. (nothing_paid g a u v s, λ p. absurd p)) y s in
    let law = unpaid_law g a y s in (
      λ u. law.0 (same.0 u),
      λ u. same.1 (law.1 u),
    )

-- the sets that are useful before some node are those of the nodes that are hits
pub unpaid_ucb_law : (g : Graph) (a : Accesses) (hit : ℕ → Type 0) (pays : ℕ → ℕ → ℕ → Type 0)
    (s : ℕ) → ((y : ℕ) × (y < g.size) × UsefulUnpaid g a hit pays y s)
    ↔ ((z : ℕ) × (z < g.size) × hit z × (a.set z ≡ s))
unpaid_ucb_law g a hit pays s = (
  λ u. let z = u.2.0 in let l = u.2.1 in
      let f = found g a s u.0 z l.later l.goes_on l.first in (z, f.0, l.hits, f.1),
  λ h. (
    h.0,
    h.1,
    (
      h.0,
      record {
        later = [];
        goes_on = h.1;
        first = first_here a s h.0 [] h.3;
        unpaid = tt;
        hits = h.2;
      },
    ),
  ),
)

pub prepaid_ucb_law : PrepaidUcbLaw
prepaid_ucb_law g e s = unpaid_ucb_law g (accesses_in e) (IsPrepaidHit g e) (Pays g e) s

pub counted_prepaid_law : CountedPrepaidLaw
counted_prepaid_law g e is_hit pays hits paid y s =
    same_unpaid_law g (accesses_in e) (λ z. IsTrue (is_hit z)) (IsPrepaidHit g e)
    (λ u v t. IsTrue (pays u v t)) (Pays g e) hits paid y s

module _ (g : Graph) (e : Events) where
  -- an edge that does not pay for a set leaves in it what the set holds after the edge's source
  kept_across : (u v s m : ℕ) → Edge g u v → (Pays g e u v s → ⊥) → Prepaid g e v s m
      → PrepaidAfter g e u s m
  kept_across u v s m edge unpaid holds before walk =
      let there : or_before (e.brings u v s) (after_node e s u (last_event e s before u)) ≡ Some m =
      holds (u ∷ before) (edge, walk) in
      ⊎_elim
      (λ (none : e.brings u v s ≡ None).
      sym (ap (λ o. or_before o (after_node e s u (last_event e s before u))) none) ∙ there)
      (λ (some : (k : ℕ) × (e.brings u v s ≡ Some k)).
      let is : Some some.0 ≡ Some m =
      sym (ap (λ o. or_before o (after_node e s u (last_event e s before u))) some.1) ∙ there in
      ⊎_elim
      (λ (h : after_node e s u (last_event e s before u) ≡ Some some.0). h ∙ is)
      (λ ne. absurd (unpaid (some.0, some.1, λ held. ne (held before walk))))
      (same_or_not (after_node e s u (last_event e s before u)) (Some some.0)))
      (none_or_some (e.brings u v s))

  -- before y the set holds the block of that hit
  prepaid_before : (s y z : ℕ) (later : List ℕ) → GoesOn g y later
      → first_access (accesses_in e) s (y ∷ later) ≡ Some z
      → IsUnpaid (accesses_in e) (Pays g e) s y later
      → IsPrepaidHit g e z → Prepaid g e y s (e.block z)
  prepaid_before s y z [] on first unpaid hit =
      ⊎_elim
      (λ (same : e.set y ≡ s).
      let is : Some y ≡ Some z = sym (first_here (accesses_in e) s y [] same) ∙ first in
      let here : z ≡ y = cc in
      subst (λ x. Prepaid g e y x (e.block z)) same
      (subst (λ x. Prepaid g e x (e.set x) (e.block z)) here
      (let P : Prepaid g e z (e.set z) (e.block z) = hit in P)))
      (λ (ne : e.set y ≢ s).
      absurd (let none : None ≡ Some z = sym (first_on (accesses_in e) s y [] ne) ∙ first in cc))
      (cases_eq (e.set y) s)
  prepaid_before s y z (x ∷ later) on first unpaid hit =
      ⊎_elim
      (λ (same : e.set y ≡ s).
      let is : Some y ≡ Some z = sym (first_here (accesses_in e) s y (x ∷ later) same) ∙ first in
      let here : z ≡ y = cc in
      subst (λ n. Prepaid g e y n (e.block z)) same
      (subst (λ n. Prepaid g e n (e.set n) (e.block z)) here
      (let P : Prepaid g e z (e.set z) (e.block z) = hit in P)))
      (λ (ne : e.set y ≢ s) before walk.
      let u = unpaid ne in
      let next = prepaid_before s x z later on.1
      (sym (first_on (accesses_in e) s y (x ∷ later) ne) ∙ first) u.1 hit in
      let after = kept_across y x s (e.block z) on.0 u.0 next before walk in
      let skipped : after_node e s y (last_event e s before y) ≡ last_event e s before y =
      rw (ne_eqb (e.set y) s ne) refl in
      sym skipped ∙ after)
      (cases_eq (e.set y) s)

pub prepaid_block_law : PrepaidBlockLaw
prepaid_block_law g e y s u =
    prepaid_before g e s y u.0 u.1.later u.1.goes_on u.1.first u.1.unpaid u.1.hits
