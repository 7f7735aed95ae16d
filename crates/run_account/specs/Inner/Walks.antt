-- The nodes of a job's fetches: what only contracts inside the crate cite.
use Rattle.std.specs.Prelude.{ℕ, List, [], ◌∷◌, Option, Some, None}

-- the first of some nodes
abbrev pub first_of : List ℕ → Option ℕ
first_of [] = None
first_of (y ∷ ys) = Some y
