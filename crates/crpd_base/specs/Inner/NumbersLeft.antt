-- Inner definitions: the numbers of a set that an iterator has still to give.
use Rattle.std.specs.Prelude.{◌≡◌, ◌<◌, ◌≤◌, ℕ, zero, suc, ◌+◌, List, [], ◌∷◌, if◌then◌else◌}
use Rattle.crpd_base.specs.Sets.{member, has}

-- s is the smallest number of the set from `from` on, below n
pub record IsLeastFrom (words : List ℕ) (from n s : ℕ) : Type 0 where
  pub above : from ≤ s
  pub below : s < n
  pub there : member words s ≡ 1
  pub least : (t : ℕ) → from ≤ t → t < s → member words t ≡ 0

-- those of the n numbers from `from` on that are in the set, in increasing order
abbrev pub members_from : List ℕ → ℕ → ℕ → List ℕ
members_from words from zero = []
members_from words from (suc n) =
    if has words from then from ∷ members_from words (from + 1) n
    else members_from words (from + 1) n
