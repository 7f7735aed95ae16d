-- The laws of tests of sets: those of one set, for each set.
use Rattle.std.proofs.Common.{◌≡◌, ◌≤◌, ℕ, zero, suc, Bool, true, false, ◌||◌, if◌then◌else◌, ◌==◌}
use Rattle.std.proofs.Common.{refl, arith, Option, Some, None}
use Rattle.dataflow.specs.Problem.{IsSemilattice}
use Rattle.crpd_base.specs.Sum.{one_if}
use Rattle.dataflow.specs.VariableLaws.{or_joins}
use Rattle.must_cache.specs.Inner.Marks.{Marks, either_marks, marks_after_access, marks_below}
use Rattle.must_cache.specs.Events.{unless_brought}
use Rattle.must_cache.specs.Inner.Marks.{marks_across}

-- the union of marks is a join
pub either_joins : IsSemilattice Marks either_marks
either_joins = record {
  same = λ x i s. or_joins.same (x s) i;
  swapped = λ x y i s. or_joins.swapped (x s) (y s) i;
  grouped = λ x y z i s. or_joins.grouped (x s) (y s) (z s) i;
}

-- removing a mark or not distributes over joins
either_way : (t x y : Bool)
    → (if t then false else x || y) ≡ ((if t then false else x) || (if t then false else y))
either_way true x y = refl
either_way false x y = refl

-- an access distributes over unions of marks
pub unmarked_distributes : (set : ℕ → ℕ) (n : ℕ) (x y : Marks)
    → marks_after_access set n (either_marks x y)
    ≡ either_marks (marks_after_access set n x) (marks_after_access set n y)
unmarked_distributes set n x y i s = either_way (set n == s) (x s) (y s) i

either_brought : (o : Option ℕ) (x y : Bool)
    → unless_brought o (x || y) ≡ (unless_brought o x || unless_brought o y)
either_brought None x y = refl
either_brought (Some m) x y = refl

-- an edge distributes over unions of marks
pub across_distributes : (brings : ℕ → ℕ → ℕ → Option ℕ) (u v : ℕ) (x y : Marks)
    → marks_across brings u v (either_marks x y)
    ≡ either_marks (marks_across brings u v x) (marks_across brings u v y)
across_distributes brings u v x y i s = either_brought (brings u v s) (x s) (y s) i

-- a test counts at most once
at_most_one : (b : Bool) → one_if b ≤ 1
at_most_one true = omega arith
at_most_one false = omega arith

-- of n cache sets at most n are marked
pub few_marked : (x : Marks) (n : ℕ) → marks_below x n ≤ n
few_marked x zero = omega arith
few_marked x (suc n) = omega (arith, few_marked x n, at_most_one (x n))
