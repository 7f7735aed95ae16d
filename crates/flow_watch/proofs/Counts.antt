-- An arrival at an address, counted loop by loop.
use Rattle.std.proofs.Common.{◌≡◌, ◌≢◌, ℕ, zero, suc, ◌+◌, ◌<◌, ◌≤◌, ◌==◌, nat_le, true, false, Some, None}
use Rattle.std.proofs.Common.{List, [], ◌∷◌, ◌++◌, length, take, drop, get_or, slice_index, inl}
use Rattle.std.proofs.Common.{inr, refl, sym, ◌∙◌, ap, subst, arith, append_assoc, drop-cons}
use Rattle.std.specs.List.{find, list_any}
use Rattle.std.proofs.lemmas.Bool.{and_parts, cases_Bool, eq-eqb, leb-true, ltb-true}
use Rattle.std.proofs.lemmas.Bool.{ne_eqb}
use Rattle.std.proofs.lemmas.Bool.Decides.{nat_tests}
use Rattle.std.proofs.lemmas.List.{drop_all, take-append-drop}
use Rattle.std.proofs.Math.Seq.{take-suc}
use Rattle.crpd_base.specs.declared.data.LoopAt.{LoopAt}
use Rattle.flow_watch.specs.Watch.{in_range, iterations_after, all_iterations_after}
use Rattle.flow_watch.specs.Watch.{within_bounds}
use Rattle.flow_watch.specs.Inner.Quiet.{KeepsAllIterations, KeepsIterations}

-- the iterations after the first i loops are counted; counting the remaining ones gives the whole
pub record IsCounted (a : ℕ) (loops : List LoopAt) (before : List ℕ) (i : ℕ)
    (turns : List ℕ) : Type 0 where
  pub same : length turns ≡ length loops
  pub counted : all_iterations_after a loops before
      ≡ take i turns ++ all_iterations_after a (drop i loops) (drop i turns)
  pub within :
      within_bounds loops (all_iterations_after a loops before)
      ≡ within_bounds (drop i loops) (all_iterations_after a (drop i loops) (drop i turns))

-- one more loop whose iterations do not change
pub counted_still :
    (a : ℕ) (loops : List LoopAt) (turns : List ℕ) (i : ℕ) (loop : LoopAt) →
    IsCounted a loops turns i turns → i < length loops → loop ≡ get_or loops i loop →
    KeepsIterations a loop (slice_index turns i) → IsCounted a loops turns (i + 1) turns
counted_still a loops turns i loop h below is keeps =
    let t = slice_index turns i in
    let rest = all_iterations_after a (drop (suc i) loops) (drop (suc i) turns) in
    let here : drop i loops ≡ loop ∷ drop (suc i) loops =
    drop-cons loops i loop below ∙ ap (λ (l : LoopAt). l ∷ drop (suc i) loops) (sym is) in
    let turn : drop i turns ≡ t ∷ drop (suc i) turns =
    drop-cons turns i 0 (omega (arith, h.same)) in
    let front : take (suc i) turns ≡ take i turns ++ t ∷ [] =
    take-suc turns i 0 (omega (arith, h.same)) in
    let test : nat_le t loop.bound ≡ true = grind (arith, nat_tests, keeps.within) in
    let all : all_iterations_after a (drop i loops) (drop i turns) ≡ t ∷ rest =
    rw (here, turn) (ap (λ (x : ℕ). x ∷ rest) keeps.same) in
    let fits : within_bounds (drop i loops) (all_iterations_after a (drop i loops) (drop i turns))
    ≡ within_bounds (drop (suc i) loops) rest =
    ap (within_bounds (drop i loops)) all ∙ rw (here, test) refl in
    let next : suc i ≡ i + 1 = omega arith in
    subst (λ (n : ℕ). IsCounted a loops turns n turns) next
    (record {
      same = h.same;
      counted =
          h.counted ∙ ap (λ (xs : List ℕ). take i turns ++ xs) all
          ∙ append_assoc_of (take i turns) t rest ∙ ap (λ (xs : List ℕ). xs ++ rest) (sym front);
      within = h.within ∙ fits;
    })
  where
    append_assoc_of : (xs : List ℕ) (y : ℕ) (ys : List ℕ) → xs ++ y ∷ ys ≡ (xs ++ y ∷ []) ++ ys
    append_assoc_of xs y ys = sym (append_assoc xs (y ∷ []) ys)

none_counts : (a : ℕ) (loops : List LoopAt) (turns : List ℕ) → loops ≡ []
    → all_iterations_after a loops turns ≡ []
none_counts a [] turns e = refl
none_counts a (loop ∷ loops) turns e = cc

none_exceeds : (loops : List LoopAt) (turns : List ℕ) → loops ≡ []
    → within_bounds loops turns ≡ true
none_exceeds [] turns e = refl
none_exceeds (loop ∷ loops) turns e = cc

-- when all loops are counted, no iterations have changed
pub counted_all :
    (a : ℕ) (loops : List LoopAt) (turns : List ℕ) (i : ℕ) → IsCounted a loops turns i turns
    → length loops ≤ i →
    KeepsAllIterations a loops turns
counted_all a loops turns i h all =
    let none : drop i loops ≡ [] = drop_all i loops all in
    let last : drop i turns ≡ [] = drop_all i turns (omega (arith, h.same)) in
    let same : all_iterations_after a loops turns ≡ turns =
    h.counted
    ∙ (ap (λ (xs : List ℕ). take i turns ++ xs)
    (none_counts a (drop i loops) (drop i turns) none ∙ sym last) ∙ take-append-drop i turns) in
    record {
      same = same;
      within =
          ap (within_bounds loops) (sym same) ∙ h.within
          ∙ none_exceeds (drop i loops) (all_iterations_after a (drop i loops) (drop i turns)) none;
    }

-- an arrival at an address that is not its head does not change a loop that is not open
pub still_closed :
    (a : ℕ) (loop : LoopAt) (turns : ℕ) → a ≢ loop.head → turns ≡ 0 → KeepsIterations a loop turns
still_closed a loop turns other none =
    let test : (a == loop.head) ≡ false = ne_eqb a loop.head other in
    rw none (record {
      same =
          rw test (elim (cases_Bool (list_any (in_range a) loop.ranges)) [
            | inl e ↦ rw e refl
            | inr e ↦ rw e refl
          ]);
      within = omega arith;
    })

-- an arrival in a range of the loop does not change it if it is open
pub still_held :
    (a near : ℕ) (loop : LoopAt) (turns : ℕ) (r : ℕ × ℕ) → a ≢ loop.head → turns ≤ loop.bound →
    find (in_range near) loop.ranges ≡ Some r → r.0 ≤ a → a < r.1 → KeepsIterations a loop turns
still_held a near loop turns r other within found low high =
    let test : (a == loop.head) ≡ false = ne_eqb a loop.head other in
    let held = held_by a near loop.ranges r found low high in
    record { same = rw (test, held) refl; within = within }
  where
    option_some_same : (x r : ℕ × ℕ) → Some x ≡ Some r → x ≡ r
    option_some_same x r e = cc

    held_by : (a near : ℕ) (rs : List (ℕ × ℕ)) (r : ℕ × ℕ) → find (in_range near) rs ≡ Some r
        → r.0 ≤ a → a < r.1 → list_any (in_range a) rs ≡ true
    held_by a near [] r found low high = cc
    held_by a near (x ∷ rs) r found low high =
        elim (cases_Bool (in_range near x)) [
          | inl e ↦
              let is : x ≡ r = option_some_same x r (rw e at found) in
              let inside : in_range a x ≡ true = grind (arith, nat_tests) in
              rw inside refl
          | inr e ↦
              let rest = held_by a near rs r (rw e at found) low high in
              elim (cases_Bool (in_range a x)) [ inl t ↦ rw t refl | inr t ↦ rw (t, rest) refl ]
        ]

-- an arrival that does not change a loop's iterations is not at its head
pub kept_apart :
    (a : ℕ) (loop : LoopAt) (turns : ℕ) → KeepsIterations a loop turns → a ≢ loop.head
kept_apart a loop turns keeps e =
    let test : (a == loop.head) ≡ true = eq-eqb a loop.head e in
    let more : suc turns ≡ turns = rw test at keeps.same in
    omega arith

-- a range that is found to have an address has it
pub found_holds : (a : ℕ) (rs : List (ℕ × ℕ)) (r : ℕ × ℕ) → find (in_range a) rs ≡ Some r
    → (r.0 ≤ a) × (a < r.1)
found_holds a [] r found = cc
found_holds a (x ∷ rs) r found =
    elim (cases_Bool (in_range a x)) [
      | inl e ↦
          let is : x ≡ r = some_same x r (rw e at found) in
          let parts = and_parts _ _ e in
          let low : x.0 ≤ a = leb-true x.0 a parts.0 in
          let high : a < x.1 = ltb-true a x.1 parts.1 in
          (subst (λ (y : ℕ × ℕ). y.0 ≤ a) is low, subst (λ (y : ℕ × ℕ). a < y.1) is high)
      | inr e ↦ found_holds a rs r (rw e at found)
    ]
  where
    some_same : (x r : ℕ × ℕ) → Some x ≡ Some r → x ≡ r
    some_same x r e = cc

-- if no range has it, none is found
none_held : (a : ℕ) (rs : List (ℕ × ℕ)) → find (in_range a) rs ≡ None
    → list_any (in_range a) rs ≡ false
none_held a [] none = refl
none_held a (x ∷ rs) none =
    elim (cases_Bool (in_range a x)) [
      | inl e ↦ absurd (some_none x (rw e at none))
      | inr e ↦ let rest = none_held a rs (rw e at none) in rw (e, rest) refl
    ]
  where
    some_none : (x : ℕ × ℕ) → Some x ≡ None → ⊥
    some_none x e = cc

-- an arrival that does not change the iterations of an open loop is in one of its ranges
pub kept_found :
    (a : ℕ) (loop : LoopAt) (turns : ℕ) → KeepsIterations a loop turns → turns ≢ 0
    → find (in_range a) loop.ranges ≡ None → ⊥
kept_found a loop turns keeps under_way none =
    let test : (a == loop.head) ≡ false =
    ne_eqb a loop.head (kept_apart a loop turns keeps) in
    let outside : list_any (in_range a) loop.ranges ≡ false = none_held a loop.ranges none in
    let closed : iterations_after a loop turns ≡ 0 = rw (test, outside) refl in
    under_way (sym keeps.same ∙ closed)

-- an arrival that changes no iterations does not change those of any loop
pub keeps_each :
    (a : ℕ) (loops : List LoopAt) (turns : List ℕ) (i : ℕ) (loop : LoopAt)
    → length turns ≡ length loops → KeepsAllIterations a loops turns → i < length loops
    → loop ≡ get_or loops i loop → KeepsIterations a loop (slice_index turns i)
keeps_each a [] turns i loop long keeps below is = absurd (omega arith)
keeps_each a (l ∷ loops) [] i loop long keeps below is = absurd (omega arith)
keeps_each a (l ∷ loops) (t ∷ turns) zero loop long keeps below is =
    let first : iterations_after a l t ≡ t = same_head _ _ _ _ keeps.same in
    let bound : t ≤ l.bound = leb-true t l.bound (and_parts _ _ keeps.within).0 in
    subst (λ (x : LoopAt). KeepsIterations a x t) (sym is)
    (record { same = first; within = bound })
  where
    same_head : (x y : ℕ) (xs ys : List ℕ) → x ∷ xs ≡ y ∷ ys → x ≡ y
    same_head x y xs ys e = cc
keeps_each a (l ∷ loops) (t ∷ turns) (suc i) loop long keeps below is =
    keeps_each a loops turns i loop (omega arith)
    (record {
      same = same_tail _ _ _ _ keeps.same;
      within = (and_parts _ _ keeps.within).1;
    })
    (omega arith) is
  where
    same_tail : (x y : ℕ) (xs ys : List ℕ) → x ∷ xs ≡ y ∷ ys → xs ≡ ys
    same_tail x y xs ys e = cc
