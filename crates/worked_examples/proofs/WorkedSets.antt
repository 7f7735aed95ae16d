-- Rows of the cache analyses on straight-line graphs, by tests that compute.
use Rattle.std.proofs.Common.{◌≡◌, ◌≢◌, ℕ, zero, suc, ◌%◌, ◌<◌, ◌≤◌, Bool, true, false, List, []}
use Rattle.std.proofs.Common.{◌∷◌, Option, Some, None, Contains, IsTrue, ◌↔◌, refl, sym, ◌∙◌, ap}
use Rattle.std.proofs.Common.{subst, inl, inr, arith, ◌==◌, ◌&&◌, ◌||◌, nat_lt, slice_index_or}
use Rattle.std.specs.List.{list_any}
use Rattle.std.proofs.lemmas.Bool.{cases_lt, cases_eq, cases_Bool, eqb-true, eq-eqb, ne_eqb}
use Rattle.std.proofs.lemmas.Bool.{ltb-true, and_parts, and_from, or_cases, false≢true}
use Rattle.crpd_base.specs.declared.data.Platform.{Platform}
use Rattle.crpd_base.proofs.Bools.{each, each_says}
use Rattle.flat_graph.specs.Graph.{Graph, Edge, IsWalk, GoesOn}
use Rattle.icache.specs.Accesses.{Accesses, accesses, last_access, first_access}
use Rattle.must_cache.specs.Sure.{Sure, IsSureHit}
use Rattle.useful_sets.specs.Useful.{Useful, IsUcb, IsEcb}
use Rattle.useful_sets.proofs.UsefulLaws.{ucb_law}
use Rattle.evict_sets.specs.Full.{Listed, FullState, IsHit, FullUseful, listed_useful, used}
use Rattle.evict_sets.specs.Full.{used_later}
use Rattle.evict_sets.specs.ListedPart.{block_of_set, listed_of}
use Rattle.evict_sets.proofs.WalkLaws.{first_here, first_on, carry_law}
use Rattle.worked_examples.specs.StraightCode.{first_alone}
use Rattle.worked_examples.specs.TwoWords as two_words
use Rattle.worked_examples.specs.ThreeTasks as three
use Rattle.worked_examples.specs.WorkedSets.{IsRow, HasSets, call_addresses, call_instructions}
use Rattle.worked_examples.specs.WorkedSets.{call_successors, zero_and_one, WorkedSets}
use Rattle.worked_examples.proofs.StraightCode as law
use Rattle.worked_examples.proofs.StraightTests.{Way, size, next, address, before, graph}
use Rattle.worked_examples.proofs.StraightTests.{same, same_says, at_next, at_next_says}
use Rattle.worked_examples.proofs.StraightTests.{is_next, is_next_says, IsWay, line}
use Rattle.worked_examples.proofs.ThreeTasks.{high, lower, high_way, lower_way}

-- tests on lists and options
abbrev pub is_in : List ℕ → ℕ → Bool
is_in numbers s = list_any (λ x. x == s) numbers

pub in_says : (numbers : List ℕ) (s : ℕ) → IsTrue (is_in numbers s) → Contains numbers s
in_says [] s t = absurd (false≢true t)
in_says (x ∷ xs) s t =
    elim (or_cases (x == s) (is_in xs s) t) [
      | inl b ↦ (0, omega arith, eqb-true x s b)
      | inr b ↦ let c = in_says xs s b in let l = c.1 in (suc c.0, omega (arith, l), c.2)
    ]

pub says_in : (numbers : List ℕ) (s : ℕ) → Contains numbers s → IsTrue (is_in numbers s)
says_in [] s (k, l, e) = absurd (omega (arith, l))
says_in (x ∷ xs) s (zero, l, e) = rw (eq-eqb x s e) refl
says_in (x ∷ xs) s (suc k, l, e) = elim (cases_Bool (x == s)) [
  | inl b ↦ rw b refl
  | inr b ↦ rw b (says_in xs s (k, omega (arith, l), e))
]

abbrev same_option : Option ℕ → Option ℕ → Bool
same_option None None = true
same_option (Some x) (Some y) = x == y
same_option _ _ = false

option_says : (a b : Option ℕ) → IsTrue (same_option a b) → a ≡ b
option_says None None t = refl
option_says None (Some y) t = absurd (false≢true t)
option_says (Some x) None t = absurd (false≢true t)
option_says (Some x) (Some y) t = ap Some (eqb-true x y t)

abbrev pub same_test : Bool → Bool → Bool
same_test true b = b
same_test false true = false
same_test false false = true

pub test_says : (a b : Bool) → IsTrue (same_test a b) → a ≡ b
test_says true b t = sym t
test_says false true t = absurd (false≢true t)
test_says false false t = refl

-- some number below a bound passes
abbrev some_of : ℕ → (ℕ → Bool) → Bool
some_of zero test = false
some_of (suc n) test = test n || some_of n test

some_says : (n : ℕ) (test : ℕ → Bool) → IsTrue (some_of n test)
    → (k : ℕ) × (k < n) × IsTrue (test k)
some_says zero test t = absurd (false≢true t)
some_says (suc n) test t =
    elim (or_cases (test n) (some_of n test) t) [
      | inl b ↦ (n, omega arith, b)
      | inr b ↦ let k = some_says n test b in let l = k.1 in (k.0, omega (arith, l), k.2)
    ]

says_some : (n : ℕ) (test : ℕ → Bool) (k : ℕ) → k < n → IsTrue (test k) → IsTrue (some_of n test)
says_some zero test k l t = absurd (omega (arith, l))
says_some (suc n) test k l t =
    elim (cases_Bool (test n)) [
      | inl b ↦ rw b refl
      | inr b ↦ rw b (says_some n test k (elim (cases_eq k n) [
        | inl e ↦ absurd (false≢true (sym b ∙ subst (λ z. IsTrue (test z)) e t))
        | inr ne ↦ omega (arith, l, ne)
      ]) t)
    ]

-- no number from a bound on is in a list, and none has a block
abbrev pub are_below : ℕ → List ℕ → Bool
are_below k [] = true
are_below k (x ∷ xs) = nat_lt x k && are_below k xs

abbrev have_below : ℕ → List (ℕ × ℕ) → Bool
have_below k [] = true
have_below k (x ∷ xs) = nat_lt x.0 k && have_below k xs

pub not_in : (k : ℕ) (numbers : List ℕ) (s : ℕ) → IsTrue (are_below k numbers) → k ≤ s
    → is_in numbers s ≡ false
not_in k [] s t le = refl
not_in k (x ∷ xs) s t le =
    let p = and_parts (nat_lt x k) (are_below k xs) t in
    let l = ltb-true x k p.0 in
    let other : x ≢ s = λ e. absurd (omega (arith, l, e, le)) in
    rw (ne_eqb x s other) (not_in k xs s p.1 le)

no_block : (k : ℕ) (pairs : List (ℕ × ℕ)) (s : ℕ) → IsTrue (have_below k pairs) → k ≤ s
    → block_of_set pairs s ≡ None
no_block k [] s t le = refl
no_block k (x ∷ xs) s t le =
    let p = and_parts (nat_lt x.0 k) (have_below k xs) t in
    let l = ltb-true x.0 k p.0 in
    let other : x.0 ≢ s = λ e. absurd (omega (arith, l, e, le)) in
    rw (ne_eqb x.0 s other) (no_block k xs s p.1 le)

module _ (a : Accesses) (k : ℕ) (below : (x : ℕ) → a.set x < k) (s : ℕ) (le : k ≤ s) where
  other_set : (x : ℕ) → a.set x ≢ s
  other_set x e = let l = below x in absurd (omega (arith, l, e, le))

  no_last : (xs : List ℕ) → last_access a s xs ≡ None
  no_last [] = refl
  no_last (x ∷ xs) = rw (ne_eqb (a.set x) s (other_set x)) (no_last xs)

  no_first : (xs : List ℕ) → first_access a s xs ≡ None
  no_first [] = refl
  no_first (x ∷ xs) = rw (ne_eqb (a.set x) s (other_set x)) (no_first xs)

-- the nodes after each, to the end
abbrev goes : Way → ℕ → List ℕ → Bool
goes w y [] = nat_lt y (size w)
goes w y (z ∷ later) = nat_lt y (size w) && (is_next (next w y) z && goes w z later)

goes_says : (w : Way) (y : ℕ) (later : List ℕ) → IsTrue (goes w y later)
    → GoesOn (graph w).graph y later
goes_says w y [] t = ltb-true y (size w) t
goes_says w y (z ∷ later) t =
    let p = and_parts (nat_lt y (size w)) (is_next (next w y) z && goes w z later) t in
    let q = and_parts (is_next (next w y) z) (goes w z later) p.1 in
    ((ltb-true y (size w) p.0, is_next_says (next w y) z q.0), goes_says w z later q.1)

pub record HasRests (w : Way) (rest : ℕ → List ℕ) : Type 0 where
  pub on : IsTrue (each (size w) (λ y. goes w y (rest y)))
  pub steps : IsTrue (each (size w) (λ u. at_next (λ v. same (rest u) (v ∷ rest v)) (next w u)))

module _ (w : Way) (way : IsWay w) (rest : ℕ → List ℕ) (R : HasRests w rest) (p : Platform)
    (below : (x : ℕ) → (accesses p (address w)).set x < p.sets) where
  abbrev g : Graph
  g = (graph w).graph

  abbrev a : Accesses
  a = accesses p (address w)

  on : law.IsLine (graph w).graph (before w)
  on = line w way

  only_walk : (b : List ℕ) (y : ℕ) → IsWalk (graph w).graph (y ∷ b) → b ≡ before w y
  only_walk [] y walk = sym (ap (before w) walk ∙ way.start)
  only_walk (u ∷ b) y walk =
      ap (λ (x : List ℕ). u ∷ x) (only_walk b u walk.1) ∙ sym (on.step u y walk.0).1

  sure_is : (y s m : ℕ) → y < size w → Sure g a y s m ↔ (last_access a s (before w y) ≡ Some m)
  sure_is y s m lt = (
    λ sure. sure (before w y) (on.walks y lt),
    λ e b walk. ap (last_access a s) (only_walk b y walk) ∙ e,
  )

  pub hit_is : (z : ℕ) → z < size w → IsSureHit g a z ↔ IsTrue (law.hit_at (before w) a z)
  hit_is z lt = (
    (λ h. let e = (sure_is z (a.set z) (a.block z) lt).0 h in
        rw e (eq-eqb (a.block z) (a.block z) refl)),
    (λ t. (sure_is z (a.set z) (a.block z) lt).1
        (law.block_says (last_access a (a.set z) (before w z)) (a.block z) t)),
  )

  rest_step : (u v : ℕ) → Edge (graph w).graph u v → rest u ≡ v ∷ rest v
  rest_step u v e =
      same_says (rest u) (v ∷ rest v)
      (at_next_says (λ x. same (rest u) (x ∷ rest x)) (next w u) v
      (each_says (size w) (λ x. at_next (λ z. same (rest x) (z ∷ rest z)) (next w x)) R.steps u e.0)
      e.1)

  rest_goes : (y : ℕ) → y < size w → GoesOn (graph w).graph y (rest y)
  rest_goes y lt = goes_says w y (rest y) (each_says (size w) (λ x. goes w x (rest x)) R.on y lt)

  -- each walk from a node is a part of the rest
  on_to : (later : List ℕ) (y s z : ℕ) → GoesOn (graph w).graph y later
      → first_access a s (y ∷ later) ≡ Some z → first_access a s (y ∷ rest y) ≡ Some z
  on_to [] y s z o e =
      elim (cases_eq (a.set y) s) [
        | inl here ↦ first_here a s y (rest y) here ∙ sym (first_here a s y [] here) ∙ e
        | inr ne ↦ absurd (let none = first_on a s y [] ne in cc)
      ]
  on_to (x ∷ later) y s z o e =
      elim (cases_eq (a.set y) s) [
        | inl here ↦ first_here a s y (rest y) here ∙ sym (first_here a s y (x ∷ later) here) ∙ e
        | inr ne ↦
            first_on a s y (rest y) ne ∙ ap (first_access a s) (rest_step y x o.0)
            ∙ on_to later x s z o.1 (sym (first_on a s y (x ∷ later) ne) ∙ e)
      ]

  node_found : (later : List ℕ) (y s z : ℕ) → GoesOn (graph w).graph y later
      → first_access a s (y ∷ later) ≡ Some z → z < size w
  node_found [] y s z o e =
      elim (cases_eq (a.set y) s) [
        | inl here ↦ let q : y ≡ z = cc (first_here a s y [] here) in subst (λ x. x < size w) q o
        | inr ne ↦ absurd (let none = first_on a s y [] ne in cc)
      ]
  node_found (x ∷ later) y s z o e =
      elim (cases_eq (a.set y) s) [
        | inl here ↦ let q : y ≡ z =
            cc (first_here a s y (x ∷ later) here) in subst (λ n. n < size w) q o.0.0
        | inr ne ↦ node_found later x s z o.1 (sym (first_on a s y (x ∷ later) ne) ∙ e)
      ]

  abbrev pub is_hit_at : Option ℕ → Bool
  is_hit_at None = false
  is_hit_at (Some z) = law.hit_at (before w) a z

  abbrev pub is_useful : ℕ → ℕ → Bool
  is_useful y s = is_hit_at (first_access a s (y ∷ rest y))

  found : (o : Option ℕ) → IsTrue (is_hit_at o)
      → (z : ℕ) × (o ≡ Some z) × IsTrue (law.hit_at (before w) a z)
  found None t = absurd (false≢true t)
  found (Some z) t = (z, refl, t)

  pub useful_is : (y s : ℕ) → y < size w → Useful g a y s ↔ IsTrue (is_useful y s)
  useful_is y s lt = (
    (λ u. let e = on_to u.1.later y s u.0 u.1.goes_on u.1.first in
        rw e ((hit_is u.0 (node_found u.1.later y s u.0 u.1.goes_on u.1.first)).0 u.1.hit)),
    (λ t. let f = found (first_access a s (y ∷ rest y)) t in (
      f.0,
      record {
        later = rest y;
        goes_on = rest_goes y lt;
        first = f.1;
        hit = (hit_is f.0 (node_found (rest y) y s f.0 (rest_goes y lt) f.1)).1 f.2;
      },
    )),
  )

  -- the full states, if the first node alone is listed
  module _ (l : Listed) (f : law.ListsFirst (graph w).graph l) where
    full_is : (y s m : ℕ) → y < size w
        → FullState g a l y s m ↔ (last_access a s (before w y) ≡ Some m)
    full_is y s m lt = (
      λ st. law.state_says (graph w).graph (before w) a l on f (before w y) y s m
          (on.walks y lt) st,
      λ e. law.state_made (graph w).graph (before w) a l on f (before w y) y s m (on.walks y lt) e,
    )

    counts : (z : ℕ) → z < size w → IsTrue (law.hit_at (before w) a z) ↔ IsHit g a l z
    counts z lt = law.hits (graph w).graph (before w) a l on f z lt

    full_useful_says : (y s : ℕ) → y < size w → FullUseful g a l y s → IsTrue (is_useful y s)
    full_useful_says y s lt (listed_useful _ _ t u) =
        absurd (f.no_useful s (subst (λ z. IsTrue (l.useful z s)) (f.alone y t) u))
    full_useful_says y s lt (used _ _ out hit here) =
        rw (first_here a s y (rest y) here) ((counts y lt).1 hit)
    full_useful_says y s lt (used_later _ v _ out e ne later) =
        rw (first_on a s y (rest y) ne ∙ ap (first_access a s) (rest_step y v e))
        (full_useful_says v s (on.step y v e).0 later)

    full_useful_is : (y s : ℕ) → y < size w → FullUseful g a l y s ↔ IsTrue (is_useful y s)
    full_useful_is y s lt = (
      full_useful_says y s lt,
      (λ t. let h = found (first_access a s (y ∷ rest y)) t in
          carry_law (graph w).graph a l y s h.0 (rest y)
          (law.useful (graph w).graph (before w) a l on f) (rest_goes y lt) h.1
          ((counts h.0 (node_found (rest y) y s h.0 (rest_goes y lt) h.1)).0 h.2)),
    )

    -- a row, by its tests at the cache sets
    abbrev pub IsTested : ℕ → List (ℕ × ℕ) → List ℕ → Type 0
    IsTested y blocks useful =
        (y < size w) × IsTrue (have_below p.sets blocks) × IsTrue (are_below p.sets useful)
        × IsTrue (each p.sets (λ s.
        same_option (last_access a s (before w y)) (block_of_set blocks s)))
        × IsTrue (each p.sets (λ s. same_test (is_useful y s) (is_in useful s)))

    module _ (y : ℕ) (blocks : List (ℕ × ℕ)) (useful : List ℕ) (T : IsTested y blocks useful) where
      state_at : (s : ℕ) → last_access a s (before w y) ≡ block_of_set blocks s
      state_at s =
          elim (cases_lt s p.sets) [
            | inl lt ↦
                option_says (last_access a s (before w y)) (block_of_set blocks s)
                (each_says p.sets
                (λ c. same_option (last_access a c (before w y)) (block_of_set blocks c))
                T.3 s lt)
            | inr ge ↦
                no_last a p.sets below s ge (before w y)
                ∙ sym (no_block p.sets blocks s T.1 ge)
          ]

      useful_at : (s : ℕ) → is_useful y s ≡ is_in useful s
      useful_at s =
          elim (cases_lt s p.sets) [
            | inl lt ↦
                test_says (is_useful y s) (is_in useful s)
                (each_says p.sets (λ c. same_test (is_useful y c) (is_in useful c)) T.4 s lt)
            | inr ge ↦
                ap is_hit_at (no_first a p.sets below s ge (y ∷ rest y))
                ∙ sym (not_in p.sets useful s T.2 ge)
          ]

      pub row : IsRow g a l y blocks useful
      row =
          record {
            sure = λ s m.
                let i = sure_is y s m T.0 in
                (λ h. sym (state_at s) ∙ i.0 h, λ e. i.1 (state_at s ∙ e));
            useful_sets = λ s. let i = useful_is y s T.0 in (
              λ h. in_says useful s (subst (λ b. IsTrue b) (useful_at s) (i.0 h)),
              λ c. i.1 (subst (λ b. IsTrue b) (sym (useful_at s)) (says_in useful s c)),
            );
            full_state = λ s m.
                let i = full_is y s m T.0 in
                (λ h. sym (state_at s) ∙ i.0 h, λ e. i.1 (state_at s ∙ e));
            full_useful = λ s. let i = full_useful_is y s T.0 in (
              λ h. in_says useful s (subst (λ b. IsTrue b) (useful_at s) (i.0 h)),
              λ c. i.1 (subst (λ b. IsTrue b) (sym (useful_at s)) (says_in useful s c)),
            );
          }

  -- the sets of a task, by tests
  pub record AreTested (evicting useful : List ℕ) : Type 0 where
    pub some_sets : IsTrue (are_below p.sets evicting && are_below p.sets useful)
    pub evicts : IsTrue
        (each p.sets (λ s. same_test (some_of (size w) (λ y. a.set y == s)) (is_in evicting s)))
    pub reuses : IsTrue
        (each p.sets
        (λ s. same_test (some_of (size w) (λ y. law.hit_at (before w) a y && (a.set y == s)))
        (is_in useful s)))

  module _ (evicting useful : List ℕ) (T : AreTested evicting useful) where
    limits : IsTrue (are_below p.sets evicting) × IsTrue (are_below p.sets useful)
    limits =
        let q = and_parts (are_below p.sets evicting) (are_below p.sets useful) T.some_sets in
        (q.0, q.1)

    -- a set that is used is in the list, and one in the list is used
    evicted : (s : ℕ) → IsEcb g a s ↔ Contains evicting s
    evicted s =
        elim (cases_lt s p.sets) [
          | inl lt ↦
              let same_tests = test_says (some_of (size w) (λ y. a.set y == s)) (is_in evicting s)
              (each_says p.sets
              (λ c. same_test (some_of (size w) (λ y. a.set y == c)) (is_in evicting c))
              T.evicts s lt) in (
                (λ e. in_says evicting s
                    (subst (λ b. IsTrue b) same_tests
                    (says_some (size w) (λ y. a.set y == s) e.0 e.1 (eq-eqb (a.set e.0) s e.2)))),
                (λ c. let k = some_says (size w) (λ y. a.set y == s)
                    (subst (λ b. IsTrue b) (sym same_tests) (says_in evicting s c)) in
                    (k.0, k.1, eqb-true (a.set k.0) s k.2)),
              )
          | inr ge ↦ (
            (λ e. absurd (other_set a p.sets below s ge e.0 e.2)),
            (λ c. absurd
                (false≢true (sym (not_in p.sets evicting s limits.0 ge) ∙ says_in evicting s c))),
          )
        ]

    reused : (s : ℕ) → IsUcb g a s ↔ Contains useful s
    reused s =
        let by = ucb_law g a s in
        elim (cases_lt s p.sets) [
          | inl lt ↦
              let same_tests = test_says
              (some_of (size w) (λ y. law.hit_at (before w) a y && (a.set y == s))) (is_in useful s)
              (each_says p.sets
              (λ c. same_test (some_of (size w) (λ y. law.hit_at (before w) a y && (a.set y == c)))
              (is_in useful c)) T.reuses s lt) in (
                (λ u. let z = by.0 u in
                    in_says useful s
                    (subst (λ b. IsTrue b) same_tests
                    (says_some (size w) (λ y. law.hit_at (before w) a y && (a.set y == s)) z.0 z.1
                    (and_from (law.hit_at (before w) a z.0) (a.set z.0 == s)
                    ((hit_is z.0 z.1).0 z.2) (eq-eqb (a.set z.0) s z.3))))),
                (λ c. let k = some_says (size w) (λ y. law.hit_at (before w) a y && (a.set y == s))
                    (subst (λ b. IsTrue b) (sym same_tests) (says_in useful s c)) in
                    let q = and_parts (law.hit_at (before w) a k.0) (a.set k.0 == s) k.2 in
                    by.1 (k.0, k.1, (hit_is k.0 k.1).1 q.0, eqb-true (a.set k.0) s q.1)),
              )
          | inr ge ↦ (
            (λ u. let z = by.0 u in absurd (other_set a p.sets below s ge z.0 z.3)),
            (λ c. absurd
                (false≢true (sym (not_in p.sets useful s limits.1 ge) ∙ says_in useful s c))),
          )
        ]

    pub sets : HasSets g a evicting useful
    sets = record { evicts = evicted; reuses = reused }

-- the rests of the ways
abbrev high_rest : ℕ → List ℕ
high_rest y = slice_index_or ((1 ∷ 2 ∷ 3 ∷ []) ∷ (2 ∷ 3 ∷ []) ∷ (3 ∷ []) ∷ [] ∷ []) y []

abbrev lower_rest : ℕ → List ℕ
lower_rest y = slice_index_or ((2 ∷ 1 ∷ 3 ∷ []) ∷ (3 ∷ []) ∷ (1 ∷ 3 ∷ []) ∷ [] ∷ []) y []

abbrev call_way : Way
call_way =
    record {
      addresses = call_addresses;
      instructions = call_instructions;
      successors = call_successors;
      walks =
          [] ∷ (0 ∷ []) ∷ (1 ∷ 0 ∷ []) ∷ (7 ∷ 2 ∷ 1 ∷ 0 ∷ []) ∷ (8 ∷ 3 ∷ 7 ∷ 2 ∷ 1 ∷ 0 ∷ [])
          ∷ (4 ∷ 8 ∷ 3 ∷ 7 ∷ 2 ∷ 1 ∷ 0 ∷ []) ∷ (5 ∷ 4 ∷ 8 ∷ 3 ∷ 7 ∷ 2 ∷ 1 ∷ 0 ∷ [])
          ∷ (2 ∷ 1 ∷ 0 ∷ []) ∷ (3 ∷ 7 ∷ 2 ∷ 1 ∷ 0 ∷ []) ∷ [];
    }

abbrev call_rest : ℕ → List ℕ
call_rest y =
    slice_index_or
    ((1 ∷ 2 ∷ 7 ∷ 3 ∷ 8 ∷ 4 ∷ 5 ∷ 6 ∷ []) ∷ (2 ∷ 7 ∷ 3 ∷ 8 ∷ 4 ∷ 5 ∷ 6 ∷ [])
    ∷ (7 ∷ 3 ∷ 8 ∷ 4 ∷ 5 ∷ 6 ∷ []) ∷ (8 ∷ 4 ∷ 5 ∷ 6 ∷ []) ∷ (5 ∷ 6 ∷ []) ∷ (6 ∷ []) ∷ []
    ∷ (3 ∷ 8 ∷ 4 ∷ 5 ∷ 6 ∷ []) ∷ (4 ∷ 5 ∷ 6 ∷ []) ∷ [])
    y []

call_is_way : IsWay call_way
call_is_way = record { some = omega arith; start = refl; walks = refl; steps = refl }

high_rests : HasRests high high_rest
high_rests = record { on = refl; steps = refl }

lower_rests : (entry : ℕ) → HasRests (lower entry) lower_rest
lower_rests entry = record { on = refl; steps = refl }

call_rests : HasRests call_way call_rest
call_rests = record { on = refl; steps = refl }

in_eight : (n : ℕ) → n % 8 < 8
in_eight n = omega arith

pub in_four : (n : ℕ) → n % 4 < 4
in_four n = omega arith

high_first : law.ListsFirst (graph high).graph
    (listed_of (first_alone 50 three.one_to_four three.nothing (50 ∷ 37 ∷ 24 ∷ 11 ∷ []) 55))
high_first =
    law.lists_first 4 (next high) 50 three.one_to_four three.nothing (50 ∷ 37 ∷ 24 ∷ 11 ∷ []) 55

middle_first : law.ListsFirst (graph (lower 0x2010)).graph
    (listed_of (first_alone 30 three.one_and_two three.one_and_two (30 ∷ 4 ∷ 17 ∷ 1 ∷ []) 115))
middle_first =
    law.lists_first 4 (next (lower 0x2010)) 30 three.one_and_two three.one_and_two
    (30 ∷ 4 ∷ 17 ∷ 1 ∷ []) 115

low_first : law.ListsFirst (graph (lower 0x1030)).graph
    (listed_of
    (first_alone 30 three.three_and_four three.three_and_four (30 ∷ 4 ∷ 17 ∷ 1 ∷ []) 175))
low_first =
    law.lists_first 4 (next (lower 0x1030)) 30 three.three_and_four three.three_and_four
    (30 ∷ 4 ∷ 17 ∷ 1 ∷ []) 175

call_first : law.ListsFirst (graph call_way).graph
    (listed_of
    (first_alone 45 zero_and_one zero_and_one (45 ∷ 34 ∷ 30 ∷ 14 ∷ 8 ∷ 4 ∷ 3 ∷ 27 ∷ 11 ∷ []) 50))
call_first =
    law.lists_first 9 (next call_way) 45 zero_and_one zero_and_one
    (45 ∷ 34 ∷ 30 ∷ 14 ∷ 8 ∷ 4 ∷ 3 ∷ 27 ∷ 11 ∷ []) 50

pub worked_sets : WorkedSets
worked_sets =
    record {
      high =
          sets high high_way high_rest high_rests three.platform (λ x. in_eight _)
          (1 ∷ 2 ∷ 3 ∷ 4 ∷ []) [] (record { some_sets = refl; evicts = refl; reuses = refl });
      high_last =
          row high high_way high_rest high_rests three.platform (λ x. in_eight _) _ high_first 3
          ((1, 0x301) ∷ (2, 0x302) ∷ (3, 0x303) ∷ []) []
          (omega arith, refl, refl, refl, refl);
      middle =
          sets (lower 0x2010) (lower_way 0x2010) lower_rest (lower_rests 0x2010) three.platform
          (λ x. in_eight _) (1 ∷ 2 ∷ []) (1 ∷ 2 ∷ [])
          (record { some_sets = refl; evicts = refl; reuses = refl });
      middle_first =
          row (lower 0x2010) (lower_way 0x2010) lower_rest (lower_rests 0x2010) three.platform
          (λ x. in_eight _) _ middle_first 0 [] []
          (omega arith, refl, refl, refl, refl);
      middle_second =
          row (lower 0x2010) (lower_way 0x2010) lower_rest (lower_rests 0x2010) three.platform
          (λ x. in_eight _) _ middle_first 2 ((1, 0x201) ∷ []) (1 ∷ [])
          (omega arith, refl, refl, refl, refl);
      middle_third =
          row (lower 0x2010) (lower_way 0x2010) lower_rest (lower_rests 0x2010) three.platform
          (λ x. in_eight _) _ middle_first 1 ((1, 0x201) ∷ (2, 0x202) ∷ []) (1 ∷ 2 ∷ [])
          (omega arith, refl, refl, refl, refl);
      middle_last =
          row (lower 0x2010) (lower_way 0x2010) lower_rest (lower_rests 0x2010) three.platform
          (λ x. in_eight _) _ middle_first 3 ((1, 0x201) ∷ (2, 0x202) ∷ []) (2 ∷ [])
          (omega arith, refl, refl, refl, refl);
      low =
          sets (lower 0x1030) (lower_way 0x1030) lower_rest (lower_rests 0x1030) three.platform
          (λ x. in_eight _) (3 ∷ 4 ∷ []) (3 ∷ 4 ∷ [])
          (record { some_sets = refl; evicts = refl; reuses = refl });
      low_third =
          row (lower 0x1030) (lower_way 0x1030) lower_rest (lower_rests 0x1030) three.platform
          (λ x. in_eight _) _ low_first 1 ((3, 0x103) ∷ (4, 0x104) ∷ []) (3 ∷ 4 ∷ [])
          (omega arith, refl, refl, refl, refl);
      low_last =
          row (lower 0x1030) (lower_way 0x1030) lower_rest (lower_rests 0x1030) three.platform
          (λ x. in_eight _) _ low_first 3 ((3, 0x103) ∷ (4, 0x104) ∷ []) (4 ∷ [])
          (omega arith, refl, refl, refl, refl);
      calls =
          sets call_way call_is_way call_rest call_rests two_words.platform (λ x. in_four _)
          (0 ∷ 1 ∷ []) (0 ∷ 1 ∷ []) (record { some_sets = refl; evicts = refl; reuses = refl });
      in_first =
          row call_way call_is_way call_rest call_rests two_words.platform
          (λ x. in_four _) _ call_first 7 ((0, 0x100) ∷ []) (0 ∷ [])
          (omega arith, refl, refl, refl, refl);
      between =
          row call_way call_is_way call_rest call_rests two_words.platform
          (λ x. in_four _) _ call_first 3 ((0, 0x100) ∷ (1, 0x101) ∷ []) (0 ∷ 1 ∷ [])
          (omega arith, refl, refl, refl, refl);
      in_second =
          row call_way call_is_way call_rest call_rests two_words.platform
          (λ x. in_four _) _ call_first 8 ((0, 0x100) ∷ (1, 0x101) ∷ []) (1 ∷ [])
          (omega arith, refl, refl, refl, refl);
    }
