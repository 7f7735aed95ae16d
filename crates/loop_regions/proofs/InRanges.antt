-- Whether sorted ranges include an address.
use Rattle.std.proofs.Common.{◌≡◌, ℕ, ◌+◌, ◌-◌, ◌<◌, ◌≤◌, max, Bool, true, false, List, [], ◌∷◌}
use Rattle.std.proofs.Common.{◌++◌, length, slice_index, slice_index_or, sym, ap, ◌∙◌, subst}
use Rattle.std.proofs.Common.{⊎_elim, arith, All, nat_le, nat_lt, ◌||◌, ◌==◌}
use borrow.Author.Tests.{ltb-true, ltb-false}
use Rattle.std.proofs.lemmas.Bool.{cases_lt, cases_Bool, cases_eq, eqb-true}
use Rattle.std.proofs.lemmas.Bool.Decides.{nat_tests}
use Rattle.std.proofs.lemmas.List.{get_or_default, get_or_append_left, length-append}
use Rattle.std.proofs.lemmas.Option.{get_or_from_slice_get}
use Rattle.std.proofs.lemmas.List.Folds.{list_any_at, list_any_none}
use Rattle.std.proofs.lemmas.List.Sorted.{list_any-IsPermutation}
use Rattle.std.specs.List.{list_any}
use Rattle.std.specs.List.Sorted.{IsPartitionPoint}
use Rattle.crpd_base.proofs.Elements.{at_end}
use Rattle.flow_watch.specs.Watch.{in_range, holds}
use Rattle.crpd_base.specs.declared.data.LoopAt.{LoopAt}
use Rattle.loop_regions.specs.Inner.Ranges.{range_end, IsReach, AreReaches, AreRanges}

-- one more range
pub reach_more : (ranges : List (ℕ × ℕ)) (count reach : ℕ) (r : ℕ × ℕ) → IsReach ranges count reach
    → slice_index_or ranges count (0, 0) ≡ r → IsReach ranges (count + 1) (max reach r.1)
reach_more ranges count reach r R at = record {
  most = λ k lt.
      ⊎_elim (λ e. grind (arith, here k e)) (λ ne. grind (arith, R.most k (omega arith)))
      (cases_eq k count);
  met = λ a lt. ⊎_elim
      (λ below. let m = R.met a below in (m.0, omega (arith, m.1), m.2))
      (λ above. (
        count,
        omega arith,
        subst (λ e. a < e) (sym (ap (λ (x : ℕ × ℕ). x.1) at)) (grind arith),
      ))
      (cases_lt a reach);
}
  where
    here : (k : ℕ) → k ≡ count → range_end ranges k ≡ r.1
    here k e = ap (range_end ranges) e ∙ ap (λ (x : ℕ × ℕ). x.1) at

-- one more reach
pub reaches_more : (ranges : List (ℕ × ℕ)) (reaches : List ℕ) (count reach : ℕ)
    → AreReaches ranges reaches count → IsReach ranges (count + 1) reach
    → AreReaches ranges (reaches ++ reach ∷ []) (count + 1)
reaches_more ranges reaches count reach R h = record {
  count_is = simp length-append (omega (arith, R.count_is));
  each = λ k lt.
      ⊎_elim
      (λ before. subst (IsReach ranges (k + 1))
      (sym (get_or_append_left reaches (reach ∷ []) 0 k (omega (arith, R.count_is, before))))
      (R.each k before))
      (λ after. subst (λ j. IsReach ranges (j + 1) (slice_index (reaches ++ reach ∷ []) j))
      (last k lt after) at_last)
      (cases_lt k count);
}
  where
    last : (k : ℕ) → k < count + 1 → count ≤ k → length reaches ≡ k
    last k lt le = omega (arith, R.count_is)

    at_last : IsReach ranges (length reaches + 1)
        (slice_index (reaches ++ reach ∷ []) (length reaches))
    at_last =
        subst (IsReach ranges (length reaches + 1))
        (sym (get_or_from_slice_get (reaches ++ reach ∷ []) (length reaches) reach 0
        (at_end reaches reach)))
        (subst (λ n. IsReach ranges (n + 1) reach) (sym R.count_is) h)

in_false : (a : ℕ) (r : ℕ × ℕ) → (r.0 ≤ a → r.1 ≤ a) → in_range a r ≡ false
in_false a r h =
    ⊎_elim (λ below. grind (arith, nat_tests)) (λ above. let f = h (omega arith) in
    grind (arith, nat_tests)) (cases_lt a r.0)

in_true : (a : ℕ) (r : ℕ × ℕ) → r.0 ≤ a → a < r.1 → in_range a r ≡ true
in_true a r le lt = grind (arith, nat_tests)

module _ (stated ranges : List (ℕ × ℕ)) (reaches : List ℕ) (R : AreRanges stated ranges reaches)
    (a begun : ℕ) (bound : begun ≤ length ranges)
    (point : IsPartitionPoint (λ (r : ℕ × ℕ). nat_le r.0 a ≡ true)
    (λ (r : ℕ × ℕ). nat_le r.0 a ≡ false) ranges begun) where
  begins : (k : ℕ) → k < begun → (slice_index_or ranges k (0, 0)).0 ≤ a
  begins k lt = let t = point.0 k (0, 0) (omega arith) lt in grind (arith, nat_tests)

  begins_after : (k : ℕ) → begun ≤ k → k < length ranges → a < (slice_index_or ranges k (0, 0)).0
  begins_after k le lt = let f = point.1 k (0, 0) le lt in grind (arith, nat_tests)

  -- an address below the reach of the ranges that begin at or before it is in one of them
  pub some_has : 0 < begun → a < slice_index reaches (begun - 1)
      → list_any (in_range a) stated ≡ true
  some_has some lt =
      let reach = R.reach.each (begun - 1) (omega arith) in
      let m = reach.met a lt in
      let r = slice_index_or ranges m.0 (0, 0) in
      list_any-IsPermutation (in_range a) stated ranges R.same
      ∙ list_any_at (in_range a) ranges m.0 (0, 0) (omega (arith, m.1))
      (in_true a r (begins m.0 (omega (arith, m.1))) m.2)

  -- any other address is in none
  pub none_has : (0 < begun → slice_index reaches (begun - 1) ≤ a)
      → list_any (in_range a) stated ≡ false
  none_has far =
      list_any-IsPermutation (in_range a) stated ranges R.same
      ∙ list_any_none (in_range a) ranges each
    where
      ends : (k : ℕ) → k < length ranges → (slice_index_or ranges k (0, 0)).0 ≤ a
          → range_end ranges k ≤ a
      ends k lt le =
          ⊎_elim
          (λ before. let m = (R.reach.each (begun - 1) (omega arith)).most k (omega arith) in
          let f = far (omega arith) in omega arith)
          (λ after. absurd (let b = begins_after k after lt in omega arith))
          (cases_lt k begun)

      each : All (λ r. in_range a r ≡ false) ranges
      each k d lt =
          subst (λ r. in_range a r ≡ false) (get_or_default ranges k (0, 0) d lt)
          (in_false a (slice_index_or ranges k (0, 0)) (λ le. ends k lt le))

  pub below_reach : (v : ℕ) → 0 < begun → v ≡ slice_index reaches (begun - 1)
      → list_any (in_range a) stated ≡ nat_lt a v
  below_reach v some e =
      ⊎_elim
      (λ t. some_has some (subst (λ x. a < x) e (ltb-true a v t)) ∙ sym t)
      (λ f. none_has (λ s. subst (λ x. x ≤ a) e (ltb-false a v f)) ∙ sym f)
      (cases_Bool (nat_lt a v))

  pub none_begun : begun ≡ 0 → list_any (in_range a) stated ≡ false
  none_begun e = none_has (λ some. absurd (omega (arith, some, e)))

-- whether a loop holds an address other than its head depends on its ranges alone
pub by_ranges : (l : LoopAt) (a : ℕ) (b : Bool) → (a ≡ l.head → ⊥)
    → list_any (in_range a) l.ranges ≡ b → b ≡ holds l a
by_ranges l a b ne e =
    ⊎_elim
    (λ t. absurd (ne (eqb-true a l.head t)))
    (λ f. sym (ap (λ x. x || list_any (in_range a) l.ranges) f ∙ e))
    (cases_Bool (a == l.head))
