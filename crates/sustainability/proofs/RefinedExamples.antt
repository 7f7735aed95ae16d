-- The refined windows of the example, computed.
use Rattle.std.proofs.Common.{◌≡◌, ℕ, ◌+◌, ◌<◌, ◌≤◌, List, [], ◌∷◌, refl, arith}
use Rattle.std.specs.Prelude.{slice_index}
use Rattle.crpd_base.proofs.Few.{two}
use Rattle.crpd_base.specs.Tasks.{period_of, jitter_of, deadline_of}
use Rattle.crpd_base.specs.declared.data.Part.{Part}
use Rattle.crpd_base.specs.declared.data.PointMethod.{PointMethod}
use Rattle.crpd_base.specs.declared.data.PointMethod.TheVariants.{Ucb, Ecb, Point}
use Rattle.crpd_base.specs.declared.data.PointMethod.TheVariants.{PersistentUcb, PersistentPoint}
use Rattle.crpd_base.specs.declared.data.RefinedTask.{RefinedTask}
use Rattle.delay_count.specs.Gamma.{union_count, shared_count}
use Rattle.delay_point.specs.Chosen.{bound_by, parts_by}
use Rattle.delay_point.specs.Refined.{IsRefinedWindow, window_at, method_at, bound_at, responses}
use Rattle.delay_point.specs.Refined.{place}
use Rattle.sustainability.specs.Workload.{IsNoLargerPart}
use Rattle.sustainability.specs.RefinedWorkload.{IsNoMoreDemandingAtNodes}
use Rattle.sustainability.specs.RefinedLaws.{AreRefinedWindows}
use Rattle.sustainability.specs.Examples.{both}
use Rattle.sustainability.specs.RefinedExamples.{both_refined, refined_parts, refined_task}
use Rattle.sustainability.specs.RefinedExamples.{ShorterRefined}
use Rattle.sustainability.proofs.Examples.{longer_period}
use Rattle.sustainability.proofs.RefinedDemands.{needs_of, needs_from}
use Rattle.sustainability.proofs.RefinedWindows.{as_demanding_at_nodes}

abbrev needs : ℕ → List RefinedTask → ℕ → PointMethod → ℕ → ℕ
needs period tasks i = needs_of (both_refined period) (window_at tasks) i

-- a task's windows by all methods, each found in the second step of its search
module _ (period : ℕ) (some : 1 ≤ period) (tasks : List RefinedTask) (i : ℕ) (is : i < 2)
    (first second : PointMethod → ℕ)
    (from_one : (m : PointMethod) → needs period tasks i m 1 ≡ first m)
    (from_first : (m : PointMethod) → needs period tasks i m (first m) ≡ second m) where
  grows : (m : PointMethod) (v x : ℕ) → v ≤ x
      → needs period tasks i m v ≤ needs period tasks i m x
  grows m v x le =
      needs_from (λ k. k) (both_refined period) (both_refined period)
      (as_demanding_at_nodes (both_refined period))
      (two (λ k. 1 ≤ period_of (both period).set k) some (omega arith))
      (window_at tasks) (window_at tasks) i v x is le (λ k l. omega arith) m

  least : (m : PointMethod) (v : ℕ) → 1 ≤ v → needs period tasks i m v ≤ v → second m ≤ v
  least m v one fits =
      let a = from_one m in
      let b = from_first m in
      let s = grows m 1 v one in
      let t = grows m (first m) v (omega (arith, a, s, fits)) in
      omega (arith, b, t, fits)

  found : (method : PointMethod) → needs period tasks i method (second method) ≡ second method
      → 1 ≤ second method
      → second method + jitter_of (both period).set i ≤ deadline_of (both period).set i
      → ((m : PointMethod) → second method ≤ second m)
      → ((m : PointMethod) → place m < place method → second method < second m)
      → IsRefinedWindow (both period).set (needs period tasks i) i method (second method)
  found method e one within shortest before = record {
    window = record {
      some = one;
      enough = omega (arith, e);
      in_deadline = within;
      least = least method;
    };
    least = λ m v W.
        let le = least m v W.some W.enough in
        let l = shortest m in
        omega (arith, le, l);
    first = λ m v h W.
        let le = least m v W.some W.enough in
        let l = before m h in
        omega (arith, le, l);
  }

-- a number for the plain union delays, and one by program point
abbrev by_method : ℕ → ℕ → PointMethod → ℕ
by_method union point Ucb = union
by_method union point Ecb = union
by_method union point Point = point
by_method union point PersistentUcb = union
by_method union point PersistentPoint = point

abbrev often : List RefinedTask
often = refined_task 2 2 Ucb ∷ refined_task 10 16 Point ∷ []

abbrev seldom : List RefinedTask
seldom = refined_task 2 2 Ucb ∷ refined_task 10 13 Point ∷ []

abbrev IsNeed : ℕ → List RefinedTask → ℕ → (PointMethod → ℕ) → (PointMethod → ℕ) → Type 0
IsNeed period tasks i w n = (m : PointMethod) → needs period tasks i m (w m) ≡ n m

higher_one : (period : ℕ) (tasks : List RefinedTask) (w : ℕ) (m : PointMethod)
    → needs period tasks 0 m w ≡ 2
higher_one period tasks w Ucb = refl
higher_one period tasks w Ecb = refl
higher_one period tasks w Point = refl
higher_one period tasks w PersistentUcb = refl
higher_one period tasks w PersistentPoint = refl

often_one : IsNeed 10 often 1 (λ m. 1) (by_method 14 13)
unfolding union_count shared_count
often_one Ucb = refl
often_one Ecb = refl
often_one Point = refl
often_one PersistentUcb = refl
often_one PersistentPoint = refl

often_first : IsNeed 10 often 1 (by_method 14 13) (by_method 18 16)
unfolding union_count shared_count
often_first Ucb = refl
often_first Ecb = refl
often_first Point = refl
often_first PersistentUcb = refl
often_first PersistentPoint = refl

often_last : needs 10 often 1 Point 16 ≡ 16
unfolding union_count shared_count
often_last = refl

seldom_one : IsNeed 20 seldom 1 (λ m. 1) (by_method 14 13)
unfolding union_count shared_count
seldom_one Ucb = refl
seldom_one Ecb = refl
seldom_one Point = refl
seldom_one PersistentUcb = refl
seldom_one PersistentPoint = refl

seldom_first : IsNeed 20 seldom 1 (by_method 14 13) (by_method 14 13)
unfolding union_count shared_count
seldom_first Ucb = refl
seldom_first Ecb = refl
seldom_first Point = refl
seldom_first PersistentUcb = refl
seldom_first PersistentPoint = refl

-- the window by program point is the smallest, and the first
point_least : (union point : ℕ) → point ≤ union → (m : PointMethod)
    → point ≤ by_method union point m
point_least union point le Ucb = le
point_least union point le Ecb = le
point_least union point le Point = omega arith
point_least union point le PersistentUcb = le
point_least union point le PersistentPoint = omega arith

point_first : (union point : ℕ) → point < union → (m : PointMethod) → place m < place Point
    → point < by_method union point m
point_first union point lt Ucb h = lt
point_first union point lt Ecb h = lt
point_first union point lt Point h = absurd (omega (arith, h))
point_first union point lt PersistentUcb h = lt
point_first union point lt PersistentPoint h = absurd (omega (arith, h))

higher_window : (period : ℕ) → 1 ≤ period → 2 ≤ period → (tasks : List RefinedTask)
    → IsRefinedWindow (both period).set (needs period tasks 0) 0 Ucb 2
higher_window period some room tasks =
    found period some tasks 0 (omega arith) (λ m. 2) (λ m. 2) (higher_one period tasks 1)
    (higher_one period tasks 2) Ucb refl (omega arith) (omega (arith, room)) (λ m. omega arith)
    (λ m h. absurd (omega (arith, h)))

are_often : AreRefinedWindows (both_refined 10) often
are_often = record {
  size = refl;
  bound =
      two (λ i. bound_at often i ≡ bound_by refined_parts i (method_at often i)) refl refl;
  window =
      two (λ i. IsRefinedWindow (both 10).set (needs 10 often i) i (method_at often i)
      (window_at often i))
      (higher_window 10 (omega arith) (omega arith) often)
      (found 10 (omega arith) often 1 (omega arith) (by_method 14 13) (by_method 18 16) often_one
      often_first Point often_last (omega arith) (omega arith)
      (point_least 18 16 (omega arith)) (point_first 18 16 (omega arith)));
  response =
      two (λ i. slice_index (responses often) i
      ≡ window_at often i + jitter_of (both 10).set i) refl refl;
}

are_seldom : AreRefinedWindows (both_refined 20) seldom
are_seldom = record {
  size = refl;
  bound =
      two (λ i. bound_at seldom i ≡ bound_by refined_parts i (method_at seldom i)) refl refl;
  window =
      two (λ i. IsRefinedWindow (both 20).set (needs 20 seldom i) i (method_at seldom i)
      (window_at seldom i))
      (higher_window 20 (omega arith) (omega arith) seldom)
      (found 20 (omega arith) seldom 1 (omega arith) (by_method 14 13) (by_method 14 13)
      seldom_one seldom_first Point (seldom_first Point) (omega arith) (omega arith)
      (point_least 14 13 (omega arith)) (point_first 14 13 (omega arith)));
  response =
      two (λ i. slice_index (responses seldom) i
      ≡ window_at seldom i + jitter_of (both 20).set i) refl refl;
}

longer_refined : IsNoMoreDemandingAtNodes (λ k. k) (both_refined 20) (both_refined 10)
longer_refined = record {
  counted = λ m. record {
    order = longer_period.order;
    platform = longer_period.platform;
    times = longer_period.times;
    parts = λ k l. as_large ((parts_by refined_parts m).part k);
    longest = λ k l. omega arith;
  };
  nodes = λ m k y l b. record { node = y; within = b; useful = λ c h. h };
}
  where
    as_large : (p : Part) → IsNoLargerPart p p
    as_large p = record { bound = omega arith; evicting = λ c h. h; useful = λ c h. h }

pub shorter_refined : ShorterRefined
shorter_refined = record {
  often = are_often;
  longer_period = longer_refined;
  seldom = are_seldom;
}
