-- The table of payments, node by node, and its prices.
use Rattle.std.proofs.Common.{◌≡◌, ◌⊎◌, ◌↔◌, ℕ, zero, suc, ◌+◌, ◌-◌, ◌*◌, ◌<◌, ◌≤◌, ◌==◌, ◌^◌}
use Rattle.std.proofs.Common.{List, [], ◌∷◌, ◌++◌, length, get_or, Option, Some, None}
use Rattle.std.proofs.Common.{IsTrue, refl, sym, ap, ◌∙◌, subst, inl, inr, arith, eq-eqb, ne_eqb}
use Rattle.std.proofs.Common.{slice_get, length-append}
use Rattle.std.proofs.lemmas.Bool.{cases_Bool, cases_eq, cases_lt}
use Rattle.std.proofs.lemmas.List.{get_or_append_left, get_or-append-add}
use Rattle.std.proofs.Math.Nat.{mul-le-mul_left, mul-le-mul_right}
use Rattle.crpd_base.proofs.Bits.{member_le_one, members_below-le}
use Rattle.crpd_base.proofs.Options.{some_injective, none_some}
use Rattle.crpd_base.proofs.Sums.{sum_onto, sum_zero}
use Rattle.crpd_base.specs.Sets.{has, member, members_below}
use Rattle.crpd_base.specs.Sum.{sum_below, one_if}
use Rattle.exec_bound.specs.Costs.{price_place}
use Rattle.flat_graph.specs.Graph.{Graph, Edge}
use Rattle.must_cache.specs.Events.{Events}
use Rattle.must_cache.specs.Marks.{sets_at}
use Rattle.must_cache.specs.Prepaid.{Pays, CountsPayments}
use Rattle.walk_parts.specs.Credit.{count_sets}
use Rattle.persistent_blocks.specs.Inner.Paid.{is_paid, sets_in, ArePaidBelow}
use Rattle.persistent_blocks.proofs.RegionEvents.{place_of}

-- the entry of the edge to the first successor, and of that to the second
pub place_first : (o : Option ℕ) (v : ℕ) → o ≡ Some v → price_place o v ≡ 0
place_first o v e = ap (λ x. price_place x v) e ∙ rw (eq-eqb v v refl) refl

pub place_second : (o : Option ℕ) (v : ℕ) → (o ≡ Some v → ⊥) → price_place o v ≡ 1
place_second None v ne = refl
place_second (Some x) v ne = rw (ne_eqb v x (λ e. ne (ap Some (sym e)))) refl

pub is_at : (o : Option ℕ) (v : ℕ) → (o ≡ Some v) ⊎ (o ≡ Some v → ⊥)
is_at None v = inr none_some
is_at (Some x) v = elim (cases_eq x v) [
  | inl e ↦ inl (ap Some e)
  | inr ne ↦ inr (λ h. ne (some_injective h))
]

-- an edge of a node with at most two successors has one of two entries
pub place_is : (g : Graph) (u v : ℕ) → Edge g u v → length (g.next u) ≤ 2
    → (k : ℕ) × (k < 2) × (slice_get (g.next u) k ≡ Some v)
    × (price_place (slice_get (g.next u) 0) v ≡ k)
place_is g u v e few = elim (is_at (slice_get (g.next u) 0) v) [
  | inl first ↦ (0, omega arith, first, place_first (slice_get (g.next u) 0) v first)
  | inr off ↦ elim (place_of g u v e few) [
    | inl first ↦ absurd (off first)
    | inr second ↦ (1, omega arith, second, place_second (slice_get (g.next u) 0) v off)
  ]
]

module _ (g : Graph) (e : Events) where
  -- no node has entries at first
  pub paid_none : (table : List (List ℕ)) → ArePaidBelow g e table 0
  paid_none table u k v s lt = absurd (omega arith)

  -- one more node with its two entries
  pub paid_more : (table one two : List (List ℕ)) (first second : List ℕ) (u : ℕ)
      → length table ≡ 2 * u → one ≡ table ++ first ∷ [] → two ≡ one ++ second ∷ []
      → ((v s : ℕ) → slice_get (g.next u) 0 ≡ Some v → IsTrue (has first s) ↔ Pays g e u v s)
      → ((v s : ℕ) → slice_get (g.next u) 1 ≡ Some v → IsTrue (has second s) ↔ Pays g e u v s)
      → ArePaidBelow g e table u → ArePaidBelow g e two (u + 1)
  paid_more table one two first second u count push push2 at_first at_second H w k v s lt two_k is =
      let whole : length one ≡ 2 * u + 1 =
      ap length push ∙ length-append table (first ∷ []) ∙ ap (λ c. c + 1) count in
      let old : (j : ℕ) → j < 2 * u → sets_at two j ≡ sets_at table j = λ j l.
      ap (λ t. sets_at t j) push2 ∙ get_or_append_left one (second ∷ []) [] j (omega arith)
      ∙ ap (λ t. sets_at t j) push ∙ get_or_append_left table (first ∷ []) [] j (omega arith) in
      let here : sets_at two (2 * u) ≡ first =
      ap (λ t. sets_at t (2 * u)) push2
      ∙ get_or_append_left one (second ∷ []) [] (2 * u) (omega arith)
      ∙ ap (λ t. sets_at t (2 * u)) push
      ∙ ap (sets_at (table ++ first ∷ [])) (let q : 2 * u ≡ length table + 0 = omega arith in q)
      ∙ get_or-append-add table (first ∷ []) 0 [] in
      let last : sets_at two (2 * u + 1) ≡ second =
      ap (λ t. sets_at t (2 * u + 1)) push2
      ∙ ap (sets_at (one ++ second ∷ [])) (let q : 2 * u + 1 ≡ length one + 0 = omega arith in q)
      ∙ get_or-append-add one (second ∷ []) 0 [] in
      elim (cases_lt w u) [
        | inl l ↦
            subst (λ (c : List ℕ). IsTrue (has c s) ↔ Pays g e w v s)
            (sym (old (2 * w + k) (omega arith))) (H w k v s l two_k is)
        | inr ge ↦
            let same : w ≡ u = omega arith in
            at w same k two_k is here last
      ]
    where
      at : (w : ℕ) → w ≡ u → (k : ℕ) → k < 2 → slice_get (g.next w) k ≡ Some v
          → sets_at two (2 * u) ≡ first → sets_at two (2 * u + 1) ≡ second
          → IsTrue (has (sets_at two (2 * w + k)) s) ↔ Pays g e w v s
      at w same zero lt is here last =
          let q : sets_at two (2 * u + 0) ≡ first =
          ap (sets_at two) (let z : 2 * u + 0 ≡ 2 * u = omega arith in z) ∙ here in
          subst (λ (x : ℕ). IsTrue (has (sets_at two (2 * x + 0)) s) ↔ Pays g e x v s) (sym same)
          (subst (λ (c : List ℕ). IsTrue (has c s) ↔ Pays g e u v s) (sym q)
          (at_first v s (ap (λ x. slice_get (g.next x) 0) (sym same) ∙ is)))
      at w same (suc zero) lt is here last =
          subst (λ (x : ℕ). IsTrue (has (sets_at two (2 * x + 1)) s) ↔ Pays g e x v s) (sym same)
          (subst (λ (c : List ℕ). IsTrue (has c s) ↔ Pays g e u v s) (sym last)
          (at_second v s (ap (λ x. slice_get (g.next x) 1) (sym same) ∙ is)))
      at w same (suc (suc k)) lt is here last = absurd (omega arith)

  -- the table of all nodes counts the payments
  pub paid_all : (table : List (List ℕ)) → ((u : ℕ) → length (g.next u) ≤ 2)
      → ArePaidBelow g e table g.size → CountsPayments g e (is_paid g table)
  paid_all table few H u v s at =
      let k = place_is g u v at (few u) in
      subst (λ (c : ℕ). IsTrue (has (sets_at table (2 * u + c)) s) ↔ Pays g e u v s) (sym k.3)
      (H u k.0 v s at.0 k.1 k.2)

-- the members of a set are those that pass its test
one_member : (m : ℕ) → m < 2 → m ≡ one_if (m == 1)
one_member zero lt = refl
one_member (suc zero) lt = refl
one_member (suc (suc m)) lt = absurd (omega arith)

pub members_pass : (words : List ℕ) (n : ℕ) → members_below words n ≡ count_sets (has words) n
members_pass words zero = refl
members_pass words (suc n) =
    let last = one_member (member words n) (member_le_one words n) in
    let before = members_pass words n in
    omega (arith, last, before)

-- where none is past n, those below n are all
pub members_all : (words : List ℕ) (n most : ℕ) → n ≤ most
    → ((s : ℕ) → n ≤ s → IsTrue (has words s) → ⊥)
    → members_below words most ≡ count_sets (has words) n
members_all words n most le none =
    let k = most - n in
    let q : most ≡ n + k = omega arith in
    let f : ℕ → ℕ = λ s. one_if (has words s) in
    let rest : sum_below (λ j. f (n + j)) k ≡ 0 = sum_zero (λ j. f (n + j)) k
    (λ j lt. elim (cases_Bool (has words (n + j))) [
      | inl t ↦ absurd (none (n + j) (omega arith) t)
      | inr no_member ↦ ap one_if no_member
    ]) in
    let parts = sum_onto f n k in
    members_pass words most ∙ ap (sum_below f) q ∙ omega (arith, parts, rest)

-- the sets of a platform are all
pub sets_all : (words : List ℕ) (n : ℕ) → n ≤ 512 → ((s : ℕ) → n ≤ s → IsTrue (has words s) → ⊥)
    → sets_in words ≡ count_sets (has words) n
unfolding sets_in
sets_all words n le none = members_all words n 512 le none

most_sets : (words : List ℕ) → sets_in words ≤ 512
unfolding sets_in
most_sets words = members_below-le words 512

-- and their loads take few cycles
pub price_small : (m : ℕ) (words : List ℕ) → m ≤ 65535 → m * sets_in words ≤ 2 ^ 25
price_small m words few =
    let one : m * sets_in words ≤ m * 512 = mul-le-mul_left m (most_sets words) in
    let two : m * 512 ≤ 65535 * 512 = mul-le-mul_right 512 few in
    omega (arith, one, two)

-- one more price
pub price_more : (miss : ℕ) (table : List (List ℕ)) (old new : List ℕ) (k : ℕ) (x : ℕ)
    → new ≡ old ++ x ∷ [] → length old ≡ k → x ≡ miss * sets_in (sets_at table k)
    → ((j : ℕ) → j < k → get_or old j 0 ≡ miss * sets_in (sets_at table j))
    → (j : ℕ) → j < k + 1 → get_or new j 0 ≡ miss * sets_in (sets_at table j)
price_more miss table old new k x push count is before j lt = elim (cases_lt j k) [
  | inl l ↦
      ap (λ xs. get_or xs j 0) push ∙ get_or_append_left old (x ∷ []) 0 j (omega arith)
      ∙ before j l
  | inr g ↦
      let e : j ≡ length old + 0 = omega arith in
      let at : j ≡ k = omega arith in
      ap (λ xs. get_or xs j 0) push ∙ ap (λ i. get_or (old ++ x ∷ []) i 0) e
      ∙ get_or-append-add old (x ∷ []) 0 0 ∙ is
      ∙ ap (λ i. miss * sets_in (sets_at table i)) (sym at)
]
