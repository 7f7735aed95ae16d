-- Tests of the cache sets, and how they propagate along the edges: definitions that contracts
-- inside this crate and inside `useful_sets` cite.
use Rattle.std.specs.Prelude.{ℕ, Bool, false, ◌||◌, ◌==◌, if◌then◌else◌, Option}
use Rattle.crpd_base.specs.Sum.{sum_below, one_if}
use Rattle.must_cache.specs.Events.{unless_brought}

-- a test of the sets
abbrev pub Marks : Type 0
Marks = ℕ → Bool

-- the sets that are marked in one or the other
abbrev pub either_marks : Marks → Marks → Marks
either_marks x y s = x s || y s

-- after node n its own set is not marked, the others as before it
abbrev pub marks_after_access : (ℕ → ℕ) → ℕ → Marks → Marks
marks_after_access set n before s = if set n == s then false else before s

-- across an edge the sets into which it brings a block are not marked, the others as before it
abbrev pub marks_across : (ℕ → ℕ → ℕ → Option ℕ) → ℕ → ℕ → Marks → Marks
marks_across brings u v after s = unless_brought (brings u v s) (after s)

-- the number of the sets below n that are marked
abbrev pub marks_below : Marks → ℕ → ℕ
marks_below x n = sum_below (λ s. one_if (x s)) n
