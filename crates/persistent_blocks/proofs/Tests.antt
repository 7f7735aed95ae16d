-- Facts of small graphs by tests that compute: what sets hold after all walks, which nodes are prepaid
-- hits, and for what edges pay.
use Rattle.std.proofs.Common.{nat_le, leb-true, le-leb, if◌then◌else◌, ◌+◌, ◌≤◌}
use Rattle.std.proofs.Common.{◌≡◌, ◌↔◌, ℕ, ◌<◌, ◌==◌, ◌&&◌, not, Bool, true, false, List, [], ◌∷◌}
use Rattle.std.proofs.Common.{Option, Some, None, Contains, IsTrue, refl, sym, ap, ◌∙◌, subst, inl, inr}
use Rattle.std.proofs.Common.{⊎_elim, eq-eqb, eqb-true}
use Rattle.std.proofs.lemmas.Bool.{cases_Bool, and_from, and_parts, false≢true, not-true}
use Rattle.crpd_base.proofs.Bools.{each, each_says}
use Rattle.crpd_base.proofs.Elements.{in_none, head_or_rest}
use Rattle.crpd_base.proofs.Options.{none_or_some, none_some, some_injective}
use Rattle.flat_graph.specs.Graph.{Graph, Edge, IsWalk, IsGraph}
use Rattle.must_cache.specs.Events.{Events, or_before, after_node, last_event}
use Rattle.must_cache.specs.Prepaid.{Prepaid, PrepaidAfter, Pays, CountsPrepaidHits, CountsPayments}

-- a test of each element of a list
abbrev pub over : (ℕ → Bool) → List ℕ → Bool
over test [] = true
over test (x ∷ xs) = test x && over test xs

over_says : (test : ℕ → Bool) (xs : List ℕ) (v : ℕ) → IsTrue (over test xs) → Contains xs v
    → IsTrue (test v)
over_says test [] v t c = absurd (in_none v c)
over_says test (x ∷ xs) v t c =
    let parts = and_parts (test x) (over test xs) t in
    elim (head_or_rest xs v x c) [
      | inl same ↦ subst (λ z. IsTrue (test z)) same parts.0
      | inr later ↦ over_says test xs v parts.1 later
    ]

-- a test of each edge
abbrev pub each_edge : Graph → (ℕ → ℕ → Bool) → Bool
each_edge g test = each g.size (λ u. over (test u) (g.next u))

pub each_edge_says : (g : Graph) (test : ℕ → ℕ → Bool) → IsTrue (each_edge g test) → (u v : ℕ)
    → Edge g u v → IsTrue (test u v)
each_edge_says g test t u v edge =
    over_says (test u) (g.next u) v
    (each_says g.size (λ w. over (test w) (g.next w)) t u edge.0) edge.1

-- whether two options are equal
abbrev pub same : Option ℕ → Option ℕ → Bool
same None None = true
same None (Some k) = false
same (Some j) None = false
same (Some j) (Some k) = j == k

pub same_says : (x y : Option ℕ) → IsTrue (same x y) → x ≡ y
same_says None None t = refl
same_says None (Some k) t = absurd (false≢true t)
same_says (Some j) None t = absurd (false≢true t)
same_says (Some j) (Some k) t = ap Some (eqb-true j k t)

same_self : (x : Option ℕ) → IsTrue (same x x)
same_self None = refl
same_self (Some k) = eq-eqb k k refl

pub same_is : (x y : Option ℕ) → x ≡ y → IsTrue (same x y)
same_is x y e = subst (λ z. IsTrue (same x z)) e (same_self x)

-- whether two tests agree
abbrev pub alike : Bool → Bool → Bool
alike true b = b
alike false b = not b

pub alike_says : (a b : Bool) → IsTrue (alike a b) → a ≡ b
alike_says true b t = sym t
alike_says false true t = absurd (false≢true t)
alike_says false false t = refl

-- whether an edge pays for what it brings, by what was held before
abbrev pub pays_if : Option ℕ → Option ℕ → Bool
pays_if None before = false
pays_if (Some m) before = not (same before (Some m))

-- what the sets below k hold before each node, the same on all walks
module _ (g : Graph) (e : Events) (k : ℕ) (held : ℕ → ℕ → Option ℕ) where
  abbrev pub starts_so : Bool
  starts_so = each k (λ s. same (e.at_start s) (held g.first s))

  abbrev pub over_edge : ℕ → ℕ → ℕ → Option ℕ
  over_edge u v s = or_before (e.brings u v s) (after_node e s u (held u s))

  abbrev pub goes_on_so : Bool
  goes_on_so = each_edge g (λ u v. each k (λ s. same (over_edge u v s) (held v s)))

  abbrev pub is_hit : ℕ → Bool
  is_hit y = same (held y (e.set y)) (Some (e.block y))

  abbrev pub pays : ℕ → ℕ → ℕ → Bool
  pays u v s = pays_if (e.brings u v s) (after_node e s u (held u s))

  module _ (start : IsTrue starts_so) (steps : IsTrue goes_on_so) (G : IsGraph g) where
    last_is : (s : ℕ) → s < k → (before : List ℕ) (y : ℕ) → IsWalk g (y ∷ before)
        → last_event e s before y ≡ held y s
    last_is s l [] y walk =
        same_says (e.at_start s) (held g.first s)
        (each_says k (λ z. same (e.at_start z) (held g.first z)) start s l)
        ∙ ap (λ z. held z s) (sym walk)
    last_is s l (u ∷ before) y walk =
        let so_far = last_is s l before u walk.1 in
        let step = each_edge_says g (λ v w. each k (λ z. same (over_edge v w z) (held w z))) steps
        u y walk.0 in
        ap (λ o. or_before (e.brings u y s) (after_node e s u o)) so_far
        ∙ same_says (over_edge u y s) (held y s)
        (each_says k (λ z. same (over_edge u y z) (held y z)) step s l)

    pub prepaid_is : (y s m : ℕ) → y < g.size → s < k → Prepaid g e y s m ↔ (held y s ≡ Some m)
    prepaid_is y s m lt l = (
      λ h. let walk = G.reached y lt in sym (last_is s l walk.0 y walk.1) ∙ h walk.0 walk.1,
      λ is before walk. last_is s l before y walk ∙ is,
    )

    after_is : (u s m : ℕ) → u < g.size → s < k
        → PrepaidAfter g e u s m ↔ (after_node e s u (held u s) ≡ Some m)
    after_is u s m lt l = (
      λ h. let walk = G.reached u lt in
          sym (ap (after_node e s u) (last_is s l walk.0 u walk.1)) ∙ h walk.0 walk.1,
      λ is before walk. ap (after_node e s u) (last_is s l before u walk) ∙ is,
    )

    pub hits : ((y : ℕ) → e.set y < k) → CountsPrepaidHits g e is_hit
    hits sets y lt =
        let is = prepaid_is y (e.set y) (e.block y) lt (sets y) in (
          λ t. is.1 (same_says (held y (e.set y)) (Some (e.block y)) t),
          λ h. same_is (held y (e.set y)) (Some (e.block y)) (is.0 h),
        )

    edge_pays : (u v s m : ℕ) → Edge g u v → s < k → e.brings u v s ≡ Some m
        → IsTrue (pays u v s) ↔ Pays g e u v s
    edge_pays u v s m edge l is =
        let after = after_is u s m edge.0 l in
        let test : pays u v s ≡ not (same (after_node e s u (held u s)) (Some m)) =
        ap (λ o. pays_if o (after_node e s u (held u s))) is in (
          λ t. (
            m,
            is,
            λ h. false≢true (sym (not-true _ (sym test ∙ t))
                ∙ same_is (after_node e s u (held u s)) (Some m) (after.0 h)),
          ),
          λ p.
              let same_block : p.0 ≡ m = some_injective (sym p.1 ∙ is) in
              ⊎_elim
              (λ (t : IsTrue (same (after_node e s u (held u s)) (Some m))).
              absurd (p.2 (subst (λ x. PrepaidAfter g e u s x) (sym same_block)
              (after.1 (same_says (after_node e s u (held u s)) (Some m) t)))))
              (λ f. test ∙ ap not f)
              (cases_Bool (same (after_node e s u (held u s)) (Some m))),
        )

    pub payments : ((u v s m : ℕ) → Edge g u v → e.brings u v s ≡ Some m → s < k)
        → CountsPayments g e pays
    payments sets u v s edge = ⊎_elim
        (λ (none : e.brings u v s ≡ None). (
          λ (t : IsTrue (pays u v s)).
              absurd (false≢true
              (sym (ap (λ o. pays_if o (after_node e s u (held u s))) none) ∙ t)),
          λ (p : Pays g e u v s). absurd (none_some (sym none ∙ p.1)),
        ))
        (λ (some : (m : ℕ) × (e.brings u v s ≡ Some m)).
        edge_pays u v s some.0 edge (sets u v s some.0 edge some.1) some.1)
        (none_or_some (e.brings u v s))

-- ---- ranges of cache sets

-- whether a set is one of those from `low` to `high`
abbrev pub between : ℕ → ℕ → ℕ → Bool
between low high s = nat_le low s && nat_le s high

pub between_says : (low high s : ℕ) → IsTrue (between low high s) ↔ ((low ≤ s) × (s ≤ high))
between_says low high s = (
  λ t. let parts = and_parts (nat_le low s) (nat_le s high) t in
      (leb-true low s parts.0, leb-true s high parts.1),
  λ h. and_from (nat_le low s) (nat_le s high) (le-leb low s h.0) (le-leb s high h.1),
)

-- of these sets the block that many lines behind `base`
abbrev pub lines : ℕ → ℕ → ℕ → ℕ → Option ℕ
lines base low high s = if between low high s then Some (base + s) else None

pub lines_say : (base low high s m : ℕ)
    → (lines base low high s ≡ Some m) ↔ ((low ≤ s) × (s ≤ high) × (m ≡ base + s))
lines_say base low high s m = by (between low high s) refl
  where
    by : (b : Bool) → between low high s ≡ b
        → ((if b then Some (base + s) else None) ≡ Some m)
        ↔ ((low ≤ s) × (s ≤ high) × (m ≡ base + s))
    by true t = (
      λ e. let is = (between_says low high s).0 t in (is.0, is.1, sym (some_injective e)),
      λ h. ap Some (sym h.2),
    )
    by false f = (
      λ e. absurd (none_some e),
      λ h. absurd (false≢true (sym f ∙ (between_says low high s).1 (h.0, h.1))),
    )
