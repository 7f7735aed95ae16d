-- The greedy choice, from the largest value downwards.
use Rattle.std.specs.Prelude.{ℕ, ◌*◌, ◌<◌, ◌≤◌, ◌==◌, nat_le, if◌then◌else◌}
use Rattle.crpd_base.specs.Sum.{sum_below}

-- a number below a level that is at least each of the first values below that level
pub record IsNextValue (value : ℕ → ℕ) (tasks level next : ℕ) : Type 0 where
  pub below : next < level
  pub greatest : (k : ℕ) → k < tasks → value k < level → value k ≤ next

-- the sum of the counts of those first tasks that have this value
abbrev pub sum_at_value : (ℕ → ℕ) → (ℕ → ℕ) → ℕ → ℕ → ℕ
sum_at_value value count tasks v = sum_below (λ k. if value k == v then count k else 0) tasks

-- the sum of the counts of those first tasks that have at least this value
abbrev pub sum_from_value : (ℕ → ℕ) → (ℕ → ℕ) → ℕ → ℕ → ℕ
sum_from_value value count level tasks =
    sum_below (λ k. if nat_le level (value k) then count k else 0) tasks

-- the sum of their values, each times its count
abbrev pub worth_from : (ℕ → ℕ) → (ℕ → ℕ) → ℕ → ℕ → ℕ
worth_from value count level tasks =
    sum_below (λ k. if nat_le level (value k) then count k * value k else 0) tasks
