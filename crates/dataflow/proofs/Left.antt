-- The work left decreases.
use Rattle.std.proofs.Common.{◌≡◌, ℕ, ◌-◌, ◌<◌, ◌≤◌, List, Option, Some, None, option_map, length}
use Rattle.std.proofs.Common.{get_or, set, suc, Bool, true, false, refl, ap, arith}
use Rattle.std.proofs.lemmas.List.Sums.{sum_by-set}
use Rattle.crpd_base.specs.Sum.{one_if}
use Rattle.dataflow.specs.Inner.Search.{rank, work_left}

module _ (F V : Type 0) (view : F → V) (height : V → ℕ) (tallest : ℕ)
    (bounded : (v : V) → height v ≤ tallest) where
  rank_bounded : (o : Option V) → rank height o ≤ suc tallest
  rank_bounded None = omega arith
  rank_bounded (Some v) = omega (arith, bounded v)

  -- the fact at t rises, and t waits
  pub left_risen : (facts : List (Option F)) (waiting : List Bool) (t : ℕ) (o : Option F)
      → t < length facts → t < length waiting
      → rank height (option_map view (get_or facts t None)) < rank height (option_map view o)
      → work_left view height tallest (set facts t o) (set waiting t true)
      ≤ work_left view height tallest facts waiting
  left_risen facts waiting t o in_facts in_waiting rises =
      let a = sum_by-set (λ q. suc tallest - rank height (option_map view q)) facts t o
      None in_facts in
      let b = sum_by-set one_if waiting t true false in_waiting in
      let c = rank_bounded (option_map view o) in
      let d : one_if true ≡ 1 = refl in
      omega arith

  pub left_same : (facts : List (Option F)) (waiting : List Bool) (t : ℕ) (o : Option F)
      → t < length facts
      → option_map view o ≡ option_map view (get_or facts t None)
      → work_left view height tallest (set facts t o) waiting
      ≤ work_left view height tallest facts waiting
  left_same facts waiting t o in_facts same =
      let a = sum_by-set (λ q. suc tallest - rank height (option_map view q)) facts t o
      None in_facts in
      let b : rank height (option_map view o)
      ≡ rank height (option_map view (get_or facts t None)) = ap (rank height) same in
      omega arith

  pub left_taken : (facts : List (Option F)) (waiting : List Bool) (t : ℕ) → t < length waiting
      → get_or waiting t false ≡ true
      → work_left view height tallest facts (set waiting t false)
      < work_left view height tallest facts waiting
  left_taken facts waiting t in_waiting waited =
      let b = sum_by-set one_if waiting t false false in_waiting in
      let d : one_if (get_or waiting t false) ≡ 1 = ap one_if waited in
      let e : one_if false ≡ 0 = refl in
      omega arith
