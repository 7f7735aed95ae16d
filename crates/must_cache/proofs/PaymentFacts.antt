-- What the sets hold after a node whose state is kept, and for what an edge pays there.
use Rattle.std.proofs.Common.{◌≡◌, ◌≢◌, ◌↔◌, ℕ, ◌<◌, if◌then◌else◌, Bool, true, false, List}
use Rattle.std.proofs.Common.{Option, Some, None, IsTrue, refl, sym, ap, ◌∙◌, ⊎_elim, inr}
use Rattle.std.proofs.Common.{eq-eqb, ne_eqb}
use Rattle.std.proofs.lemmas.Bool.{cases_eq, false≢true}
use Rattle.crpd_base.proofs.Options.{none_or_some}
use Rattle.crpd_base.specs.Sets.{has}
use Rattle.flat_graph.specs.Graph.{Graph, IsGraph}
use Rattle.icache.specs.Cache.{Cache, held}
use Rattle.must_cache.specs.Events.{Events, or_before, after_node, last_event}
use Rattle.must_cache.specs.Prepaid.{PrepaidAfter, Pays}
use Rattle.must_cache.specs.States.{state_at}
use Rattle.must_cache.specs.FirstWalks.{HoldsPrepaid, IsKept}

module _ (g : Graph) (e : Events) where
  -- what the state holds after the node is exactly what is held there, prepaid
  pub after_kept : (y : ℕ) (place : Option ℕ) (states : List Cache) (unsure : List ℕ)
      (state : Cache) → IsGraph g → y < g.size → (h : HoldsPrepaid g e place states unsure y)
      → ((s : ℕ) → held state s ≡ after_node e s y
      (if has unsure s then None else held (state_at states h.at) s))
      → (s m : ℕ) → (held state s ≡ Some m) ↔ PrepaidAfter g e y s m
  after_kept y place states unsure state G lt h is s m = ⊎_elim
      (λ (same : e.set y ≡ s).
      let own : (o : Option ℕ) → after_node e s y o ≡ Some (e.block y) = λ o.
      rw (eq-eqb (e.set y) s same) refl in
      let here : held state s ≡ Some (e.block y) =
      is s ∙ own (if has unsure s then None else held (state_at states h.at) s) in (
        λ t before walk. own (last_event e s before y) ∙ sym here ∙ t,
        λ p. let r = G.reached y lt in here ∙ sym (own (last_event e s r.0 y)) ∙ p r.0 r.1,
      ))
      (λ (ne : e.set y ≢ s).
      let on : (o : Option ℕ) → after_node e s y o ≡ o = λ o.
      rw (ne_eqb (e.set y) s ne) refl in
      let here : held state s ≡ (if has unsure s then None else held (state_at states h.at) s) =
      is s ∙ on (if has unsure s then None else held (state_at states h.at) s) in (
        λ t before walk.
            on (last_event e s before y)
            ∙ (h.each s m).0
            (kept (has unsure s) (held (state_at states h.at) s) m (sym here ∙ t)) before walk,
        λ p.
            let k = (h.each s m).1 (λ before walk. sym (on (last_event e s before y)) ∙ p before walk)
            in
            here ∙ read (has unsure s) (held (state_at states h.at) s) m k.0 k.1,
      ))
      (cases_eq (e.set y) s)
    where
      kept : (b : Bool) (o : Option ℕ) (m : ℕ) → (if b then None else o) ≡ Some m
          → (b ≡ false) × (o ≡ Some m)
      kept true o m t = absurd (let n : None ≡ Some m = t in cc)
      kept false o m t = (refl, t)

      read : (b : Bool) (o : Option ℕ) (m : ℕ) → b ≡ false → o ≡ Some m
          → (if b then None else o) ≡ Some m
      read true o m f t = absurd (false≢true (sym f))
      read false o m f t = t

  -- the edge pays for the sets in which it makes something different of that state
  pub pays_differing : (u v s : ℕ) (after put : Cache) (b : Bool)
      → (IsKept g e.brings u → (t m : ℕ) → (held after t ≡ Some m) ↔ PrepaidAfter g e u t m)
      → held put s ≡ or_before (e.brings u v s) (held after s)
      → (IsTrue b ↔ (held put s ≢ held after s))
      → IsTrue b ↔ Pays g e u v s
  pays_differing u v s after put b exact is differ = (
    λ t. ⊎_elim
        (λ (none : e.brings u v s ≡ None).
        absurd (differ.0 t (is ∙ ap (λ o. or_before o (held after s)) none)))
        (λ (some : (m : ℕ) × (e.brings u v s ≡ Some m)). (
          some.0,
          some.1,
          λ p. differ.0 t (is ∙ ap (λ o. or_before o (held after s)) some.1
              ∙ sym ((exact (inr (v, s, some.0, some.1)) s some.0).1 p)),
        ))
        (none_or_some (e.brings u v s)),
    λ p. differ.1 (λ same. p.2
        ((exact (inr (v, s, p.0, p.1)) s p.0).0
        (sym same ∙ is ∙ ap (λ o. or_before o (held after s)) p.1))),
  )

  -- an edge from a node whose state is not kept pays for nothing
  pub not_kept_pays : (u v s : ℕ) (b : Bool) → (IsKept g e.brings u → ⊥) → b ≡ false
      → IsTrue b ↔ Pays g e u v s
  not_kept_pays u v s b plain off = (
    λ t. absurd (false≢true (sym off ∙ t)),
    λ p. absurd (plain (inr (v, s, p.0, p.1))),
  )

  -- nor does one that brings nothing
  pub nothing_pays : (u v s : ℕ) (b : Bool) → e.brings u v s ≡ None → b ≡ false
      → IsTrue b ↔ Pays g e u v s
  nothing_pays u v s b none off = (
    λ t. absurd (false≢true (sym off ∙ t)),
    λ p. absurd (let h : None ≡ Some p.0 = sym none ∙ p.1 in cc),
  )
