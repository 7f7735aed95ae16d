-- The laws of what is known about cache sets: those of one set, for each set.
use Rattle.std.proofs.Common.{◌≡◌, ◌≤◌, ℕ, zero, suc, Bool, true, false, Option, Some}
use Rattle.std.proofs.Common.{if◌then◌else◌, ◌==◌, refl, sym, arith}
use Rattle.icache.specs.Accesses.{Accesses}
use Rattle.dataflow.specs.Problem.{IsSemilattice}
use Rattle.dataflow.specs.Variable.{common_value}
use Rattle.dataflow.specs.VariableLaws.{both_joins, unknown_bounded}
use Rattle.must_cache.specs.Inner.Held.{Held, common_blocks, after_access, unknown_below}

-- the common blocks are a join
pub agreed_joins : IsSemilattice Held common_blocks
agreed_joins = record {
  same = λ x i s. both_joins.same (x s) i;
  swapped = λ x y i s. both_joins.swapped (x s) (y s) i;
  grouped = λ x y z i s. both_joins.grouped (x s) (y s) (z s) i;
}

-- an access or none distributes over joins
either_way : (t : Bool) (k : Option ℕ) (x y : Option ℕ)
    → (if t then k else common_value x y) ≡ common_value (if t then k else x) (if t then k else y)
either_way true k x y = sym (both_joins.same k)
either_way false k x y = refl

-- an access distributes over joins
pub access_distributes : (a : Accesses) (n : ℕ) (x y : Held)
    → after_access a n (common_blocks x y) ≡ common_blocks (after_access a n x) (after_access a n y)
access_distributes a n x y i s = either_way (a.set n == s) (Some (a.block n)) (x s) (y s) i

-- of n cache sets at most n are unknown
pub few_unknown : (x : Held) (n : ℕ) → unknown_below x n ≤ n
few_unknown x zero = omega arith
few_unknown x (suc n) = omega (arith, few_unknown x n, unknown_bounded (x n))
