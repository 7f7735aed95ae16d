-- The events of regions as functions that compute.
use Rattle.std.proofs.Common.{◌≡◌, ◌≢◌, ◌↔◌, ℕ, zero, suc, ◌<◌, ◌==◌, ◌&&◌, not, Bool, true, false}
use Rattle.std.proofs.Common.{if◌then◌else◌, Option, Some, None, is_some, IsTrue, IsFalse, refl, sym, ap, ◌∙◌}
use Rattle.std.proofs.Common.{subst, inl, inr, arith, eq-eqb, eqb-true}
use Rattle.std.proofs.lemmas.Bool.{cases_Bool, cases_eq, false≢true, and_parts, and_from, not-true}
use Rattle.crpd_base.proofs.Options.{none_some, some_injective}
use Rattle.flat_graph.specs.Graph.{Graph, Edge}
use Rattle.icache.specs.Accesses.{Accesses}
use Rattle.loop_regions.specs.Nest.{Nest, IsNested}
use Rattle.must_cache.specs.Events.{Events}
use Rattle.persistent_blocks.specs.Regions.{IsPersistent, EdgeLoads, HeadLoads, AreRegionEvents}

-- ---- tests

-- whether an option is a value, as a test
pub some_says : (o : Option ℕ) → IsTrue (is_some o) ↔ ((m : ℕ) × (o ≡ Some m))
some_says None = (λ t. absurd (false≢true t), λ h. absurd (none_some h.1))
some_says (Some k) = (λ t. (k, refl), λ h. refl)

-- ---- the last number below a bound that passes a test

abbrev pub last_with : (ℕ → Bool) → ℕ → Option ℕ
last_with test zero = None
last_with test (suc k) = if test k then Some k else last_with test k

pub with_found : (test : ℕ → Bool) (n r : ℕ) → last_with test n ≡ Some r → (r < n) × IsTrue (test r)
with_found test zero r e = absurd (none_some e)
with_found test (suc k) r e =
    elim (cases_Bool (test k)) [
      | inl t ↦
          let here : (if test k then Some k else last_with test k) ≡ Some k = rw t in
          let same : k ≡ r = some_injective (sym here ∙ e) in
          (omega (arith, same), subst (λ z. IsTrue (test z)) same t)
      | inr f ↦
          let on : (if test k then Some k else last_with test k) ≡ last_with test k = rw f in
          let rest = with_found test k r (sym on ∙ e) in
          (omega (arith, rest.0), rest.1)
    ]

pub with_none : (test : ℕ → Bool) (n r : ℕ) → last_with test n ≡ None → r < n → IsFalse (test r)
with_none test zero r e lt = absurd (omega (arith, lt))
with_none test (suc k) r e lt =
    elim (cases_Bool (test k)) [
      | inl t ↦
          let here : (if test k then Some k else last_with test k) ≡ Some k = rw t in
          absurd (none_some (sym e ∙ here))
      | inr f ↦
          let on : (if test k then Some k else last_with test k) ≡ last_with test k = rw f in
          elim (cases_eq r k) [
            | inl same ↦ subst (λ z. IsFalse (test z)) (sym same) f
            | inr other ↦ with_none test k r (sym on ∙ e) (omega (arith, lt, other))
          ]
    ]

-- ---- the block that all numbers below a bound have that pass a test

-- one block more: none was there, or this one, or another
abbrev pub noted : Option (Option ℕ) → ℕ → Option (Option ℕ)
noted None m = Some (Some m)
noted (Some None) m = Some None
noted (Some (Some k)) m = if k == m then Some (Some k) else Some None

abbrev pub blocks_with : (ℕ → Bool) → (ℕ → ℕ) → ℕ → Option (Option ℕ)
blocks_with test block zero = None
blocks_with test block (suc k) =
    if test k then noted (blocks_with test block k) (block k) else blocks_with test block k

-- two of them have different blocks
record AreTwo (test : ℕ → Bool) (block : ℕ → ℕ) (n : ℕ) : Type 0 where
  one : ℕ
  two : ℕ
  one_below : one < n
  two_below : two < n
  first : IsTrue (test one)
  second : IsTrue (test two)
  differ : block one ≢ block two

-- there is one, and all have this block
record HaveBlock (test : ℕ → Bool) (block : ℕ → ℕ) (n m : ℕ) : Type 0 where
  one : ℕ
  below : one < n
  passes : IsTrue (test one)
  each : (y : ℕ) → y < n → IsTrue (test y) → block y ≡ m

abbrev Says : (ℕ → Bool) → (ℕ → ℕ) → ℕ → Option (Option ℕ) → Type 0
Says test block n None = (y : ℕ) → y < n → IsFalse (test y)
Says test block n (Some None) = AreTwo test block n
Says test block n (Some (Some m)) = HaveBlock test block n m

module _ (test : ℕ → Bool) (block : ℕ → ℕ) (k : ℕ) where
  more_two : AreTwo test block k → AreTwo test block (suc k)
  more_two s = record {
    one = s.one;
    two = s.two;
    one_below = let l = s.one_below in omega (arith, l);
    two_below = let l = s.two_below in omega (arith, l);
    first = s.first;
    second = s.second;
    differ = s.differ;
  }

  -- one that does not pass
  passed_over : (o : Option (Option ℕ)) → Says test block k o → IsFalse (test k)
      → Says test block (suc k) o
  passed_over None s f = λ y lt. elim (cases_eq y k) [
    | inl same ↦ subst (λ z. IsFalse (test z)) (sym same) f
    | inr other ↦ s y (omega (arith, lt, other))
  ]
  passed_over (Some None) s f = more_two s
  passed_over (Some (Some m)) s f = record {
    one = s.one;
    below = let l = s.below in omega (arith, l);
    passes = s.passes;
    each = λ y lt t. elim (cases_eq y k) [
      | inl same ↦ absurd (false≢true (sym f ∙ subst (λ z. IsTrue (test z)) same t))
      | inr other ↦ s.each y (omega (arith, lt, other)) t
    ];
  }

  first_one : ((y : ℕ) → y < k → IsFalse (test y)) → IsTrue (test k)
      → HaveBlock test block (suc k) (block k)
  first_one s t = record {
    one = k;
    below = omega arith;
    passes = t;
    each = λ y lt h. elim (cases_eq y k) [
      | inl same ↦ ap block same
      | inr other ↦ absurd (false≢true (sym (s y (omega (arith, lt, other))) ∙ h))
    ];
  }

  one_more : (m : ℕ) → HaveBlock test block k m → IsTrue (test k) → m ≡ block k
      → HaveBlock test block (suc k) m
  one_more m s t same_block = record {
    one = s.one;
    below = let l = s.below in omega (arith, l);
    passes = s.passes;
    each = λ y lt h. elim (cases_eq y k) [
      | inl same ↦ ap block same ∙ sym same_block
      | inr other ↦ s.each y (omega (arith, lt, other)) h
    ];
  }

  another : (m : ℕ) → HaveBlock test block k m → IsTrue (test k) → m ≢ block k
      → AreTwo test block (suc k)
  another m s t differ = record {
    one = s.one;
    two = k;
    one_below = let l = s.below in omega (arith, l);
    two_below = omega arith;
    first = s.passes;
    second = t;
    differ = λ e. differ (sym (s.each s.one s.below s.passes) ∙ e);
  }

  compared : (m : ℕ) → HaveBlock test block k m → IsTrue (test k) → (b : Bool)
      → (m == block k) ≡ b → Says test block (suc k) (if b then Some (Some m) else Some None)
  compared m s t true e = one_more m s t (eqb-true m (block k) e)
  compared m s t false e =
      another m s t (λ same. false≢true (sym e ∙ eq-eqb m (block k) same))

  noted_says : (o : Option (Option ℕ)) → Says test block k o → IsTrue (test k)
      → Says test block (suc k) (noted o (block k))
  noted_says None s t = first_one s t
  noted_says (Some None) s t = more_two s
  noted_says (Some (Some m)) s t = compared m s t (m == block k) refl

blocks_say : (test : ℕ → Bool) (block : ℕ → ℕ) (n : ℕ)
    → Says test block n (blocks_with test block n)
blocks_say test block zero = λ y lt. absurd (omega (arith, lt))
blocks_say test block (suc k) =
    let before = blocks_say test block k in
    elim (cases_Bool (test k)) [
      | inl t ↦
          let is : blocks_with test block (suc k) ≡ noted (blocks_with test block k) (block k) =
          rw t in
          subst (Says test block (suc k)) (sym is)
          (noted_says test block k (blocks_with test block k) before t)
      | inr f ↦
          let is : blocks_with test block (suc k) ≡ blocks_with test block k = rw f in
          subst (Says test block (suc k)) (sym is)
          (passed_over test block k (blocks_with test block k) before f)
    ]

-- ---- persistent pairs

-- the one block, if there is one
abbrev pub one_block : Option (Option ℕ) → Option ℕ
one_block None = None
one_block (Some o) = o

-- whether node y of region r accesses set s
abbrev pub accesses_in_region : Accesses → Nest → ℕ → ℕ → ℕ → Bool
accesses_in_region a n r s y = n.holds r y && (a.set y == s)

-- the block of the persistent pair of set s in region r, if there is one
abbrev pub pair_of : Graph → Accesses → Nest → ℕ → ℕ → Option ℕ
pair_of g a n r s = one_block (blocks_with (accesses_in_region a n r s) a.block g.size)

module _ (g : Graph) (a : Accesses) (n : Nest) (N : IsNested g n) where
  pair_says : (r s m : ℕ) (o : Option (Option ℕ)) → r < n.size
      → Says (accesses_in_region a n r s) a.block g.size o
      → (one_block o ≡ Some m) ↔ IsPersistent a n r s m
  pair_says r s m None lt none = (
    λ e. absurd (none_some e),
    λ pair. absurd (false≢true (sym (none pair.node (N.holds_nodes r pair.node lt pair.holds))
        ∙ and_from (n.holds r pair.node) (a.set pair.node == s) pair.holds
        (eq-eqb (a.set pair.node) s pair.own))),
  )
  pair_says r s m (Some None) lt two = (
    λ e. absurd (none_some e),
    λ pair.
        let one = and_parts (n.holds r two.one) (a.set two.one == s) two.first in
        let other = and_parts (n.holds r two.two) (a.set two.two == s) two.second in
        absurd (two.differ
        (pair.each two.one one.0 (eqb-true (a.set two.one) s one.1)
        ∙ sym (pair.each two.two other.0 (eqb-true (a.set two.two) s other.1)))),
  )
  pair_says r s m (Some (Some k)) lt have =
      let one = and_parts (n.holds r have.one) (a.set have.one == s) have.passes in
      let own = eqb-true (a.set have.one) s one.1 in (
        λ e. record {
          region = lt;
          node = have.one;
          holds = one.0;
          own = own;
          each = λ y h is.
              have.each y (N.holds_nodes r y lt h)
              (and_from (n.holds r y) (a.set y == s) h (eq-eqb (a.set y) s is))
              ∙ some_injective e;
        },
        λ pair. ap Some
            (sym (have.each have.one have.below have.passes) ∙ pair.each have.one one.0 own),
      )

  pub pair_is : (r s m : ℕ) → r < n.size → (pair_of g a n r s ≡ Some m) ↔ IsPersistent a n r s m
  pair_is r s m lt =
      pair_says r s m (blocks_with (accesses_in_region a n r s) a.block g.size) lt
      (blocks_say (accesses_in_region a n r s) a.block g.size)

-- ---- the events

-- whether an edge enters region r
abbrev pub enters : Nest → ℕ → ℕ → ℕ → Bool
enters n u v r = n.holds r v && not (n.holds r u)

-- the pair of a set in a region, if there is the region
abbrev pub pair_at : Graph → Accesses → Nest → ℕ → Option ℕ → Option ℕ
pair_at g a n s None = None
pair_at g a n s (Some r) = pair_of g a n r s

abbrev pub region_events : Graph → Accesses → Nest → Events
region_events g a n = record {
  block = a.block;
  set = a.set;
  brings = λ u v s. pair_at g a n s (last_with (enters n u v) n.size);
  at_start = λ s. pair_at g a n s (last_with (λ r. g.first == n.head r) n.size);
}

module _ (g : Graph) (a : Accesses) (n : Nest) (N : IsNested g n) where
  edge_brings : (u v s m : ℕ) → Edge g u v → (o : Option ℕ)
      → last_with (enters n u v) n.size ≡ o → (pair_at g a n s o ≡ Some m) ↔ EdgeLoads a n u v s m
  edge_brings u v s m edge None e = (
    λ h. absurd (none_some h),
    λ loads.
        let is = and_from (n.holds loads.region v) (not (n.holds loads.region u)) loads.into
        (ap not loads.from) in
        absurd (false≢true (sym (with_none (enters n u v) n.size loads.region e loads.pair.region)
        ∙ is)),
  )
  edge_brings u v s m edge (Some r) e =
      let at = with_found (enters n u v) n.size r e in
      let parts = and_parts (n.holds r v) (not (n.holds r u)) at.1 in
      let out = not-true (n.holds r u) parts.1 in
      let pair = pair_is g a n N r s m at.0 in (
        λ h. record { region = r; into = parts.0; from = out; pair = pair.0 h },
        λ loads.
            let here = N.one_entry r u v at.0 edge out parts.0 in
            let there = N.one_entry loads.region u v loads.pair.region edge loads.from loads.into in
            let same = N.one_head loads.region r loads.pair.region at.0 (sym there ∙ here) in
            pair.1 (subst (λ x. IsPersistent a n x s m) same loads.pair),
      )

  start_brings : (s m : ℕ) (o : Option ℕ) → last_with (λ r. g.first == n.head r) n.size ≡ o
      → (pair_at g a n s o ≡ Some m) ↔ HeadLoads a n g.first s m
  start_brings s m None e = (
    λ h. absurd (none_some h),
    λ loads.
        let is = eq-eqb g.first (n.head loads.region) loads.head in
        absurd (false≢true
        (sym (with_none (λ r. g.first == n.head r) n.size loads.region e loads.pair.region) ∙ is)),
  )
  start_brings s m (Some r) e =
      let at = with_found (λ r. g.first == n.head r) n.size r e in
      let head = eqb-true g.first (n.head r) at.1 in
      let pair = pair_is g a n N r s m at.0 in (
        λ h. record { region = r; head = head; pair = pair.0 h },
        λ loads.
            let same = N.one_head loads.region r loads.pair.region at.0 (sym loads.head ∙ head) in
            pair.1 (subst (λ x. IsPersistent a n x s m) same loads.pair),
      )

  pub are_region_events : AreRegionEvents g a n (region_events g a n)
  are_region_events = record {
    accesses = refl;
    edges = λ u v s m edge. edge_brings u v s m edge (last_with (enters n u v) n.size) refl;
    start = λ s m. start_brings s m (last_with (λ r. g.first == n.head r) n.size) refl;
  }
