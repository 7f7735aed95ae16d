-- Inner definitions: the lowest address from a start on that passes a test.
use Rattle.std.specs.Prelude.{◌≡◌, ℕ, ◌<◌, ◌≤◌, ◌^◌, Bool, true, false, List, Option, Some}
use Rattle.std.specs.Prelude.{MatchOption, slice_index_or}
use Rattle.crpd_base.specs.declared.data.Image.{Image}
use Rattle.code_map.specs.declared.runs.Run.{Run}
use Rattle.code_map.specs.NextPassing.{IsNextPassing}
use Rattle.code_map.specs.Inner.Runs.{run_byte, have_word}

-- the lowest address from a start on that passes a test, if one does
abbrev pub IsNextAddress : (ℕ → Bool) → ℕ → Option ℕ → Type 0
IsNextAddress p start o =
    MatchOption o ((a : ℕ) → start ≤ a → a < 2 ^ 32 → p a ≡ false) (IsNextPassing p start)

-- no word from a start on begins in the run at a place
abbrev pub HasNoNext : List Image → List Run → ℕ → ℕ → Type 0
HasNoNext images rs place start =
    (r : Run) (a b : ℕ) → start ≤ a → a < 2 ^ 32
    → run_byte images (slice_index_or rs place r) a ≡ Some b → have_word images rs a ≡ false

-- the lowest address from a start on, and from the start of the run at a place on, with a word
pub record IsNextFrom (images : List Image) (rs : List Run) (place start a : ℕ) : Type 0 where
  pub reached : start ≤ a
  pub passes : have_word images rs a ≡ true
  pub least : (r : Run) (b : ℕ) → start ≤ b → (slice_index_or rs place r).start ≤ b → b < a
      → have_word images rs b ≡ false

-- such an address; if none is given, no word from the start on begins in the run
abbrev pub IsNextInRun : List Image → List Run → ℕ → ℕ → Option ℕ → Type 0
IsNextInRun images rs place start o =
    MatchOption o (HasNoNext images rs place start) (IsNextFrom images rs place start)
