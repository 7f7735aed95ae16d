-- Inner definitions: the smallest number that passes a test.
use Rattle.std.specs.Prelude.{◌≡◌, ℕ, ◌<◌, Bool, true, false, Option, MatchOption}

-- a is the smallest number that passes a test
pub record IsLeastPassing (p : ℕ → Bool) (a : ℕ) : Type 0 where
  pub passes : p a ≡ true
  pub least : (b : ℕ) → b < a → p b ≡ false

-- the smallest number that passes a test, if one does
abbrev pub IsFirstPassing : (ℕ → Bool) → Option ℕ → Type 0
IsFirstPassing p o = MatchOption o ((a : ℕ) → p a ≡ false) (IsLeastPassing p)
