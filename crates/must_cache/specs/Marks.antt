-- Sets of cache sets, one for each node.
use Rattle.std.specs.Prelude.{ℕ, List, [], slice_index_or}

-- the set of a node; empty past the last one
abbrev pub sets_at : List (List ℕ) → ℕ → List ℕ
sets_at sets y = slice_index_or sets y []
