-- The smallest number from a start on that passes a test.
use Rattle.std.specs.Prelude.{◌≡◌, ℕ, ◌<◌, ◌≤◌, Bool, true, false, Option, MatchOption}

-- a is the smallest number from a start on that passes a test
pub record IsNextPassing (p : ℕ → Bool) (start a : ℕ) : Type 0 where
  pub reached : start ≤ a
  pub passes : p a ≡ true
  pub least : (b : ℕ) → start ≤ b → b < a → p b ≡ false

-- the smallest number from a start on that passes a test, if one does
abbrev pub IsNextOf : (ℕ → Bool) → ℕ → Option ℕ → Type 0
IsNextOf p start o = MatchOption o ((a : ℕ) → start ≤ a → p a ≡ false) (IsNextPassing p start)
