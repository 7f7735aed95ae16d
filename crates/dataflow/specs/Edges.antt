-- Lists of edges.
use Rattle.std.specs.Prelude.{ℕ, ◌<◌, ◌^◌, List, length}
use Rattle.std.specs.List.{All}

-- the ends of each edge are nodes, and the edges can be numbered
abbrev pub IsEdgeList : ℕ → List (ℕ × ℕ) → Type 0
IsEdgeList nodes edges = (length edges < 2 ^ 32) × All (λ e. (e.0 < nodes) × (e.1 < nodes)) edges
