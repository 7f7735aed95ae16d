-- Lower bounds on a window.
use Rattle.std.specs.Prelude.{ℕ, ◌+◌, ◌*◌, ◌^◌, ◌<◌, ◌≤◌, max}
use Rattle.crpd_base.specs.Sum.{sum_below}

-- no window is below it in which the first tasks take at least these numbers of cycles, and at
-- least their slopes, in units of 2^-80
abbrev pub IsLowerBound : ℕ → (ℕ → ℕ) → (ℕ → ℕ) → ℕ → ℕ → Type 0
IsLowerBound own higher slopes tasks bound =
    (w : ℕ) (takes : ℕ → ℕ) → ((k : ℕ) → k < tasks → higher k ≤ takes k)
    → ((k : ℕ) → k < tasks → slopes k * w ≤ takes k * 2 ^ 80) →
    own + sum_below takes tasks ≤ w → bound ≤ w

-- a bound that is not raised any more: what the task itself and the first tasks take of that many
-- cycles, of each of these the larger of both, is below the bound plus one
abbrev pub IsSettled : ℕ → (ℕ → ℕ) → (ℕ → ℕ) → ℕ → ℕ → Type 0
IsSettled own higher slopes tasks bound =
    own * 2 ^ 80 + sum_below (λ k. max (higher k * 2 ^ 80) (slopes k * bound)) tasks
    < (bound + 1) * 2 ^ 80
