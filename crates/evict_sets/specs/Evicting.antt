-- The cache sets that a task evicts.
use Rattle.std.specs.Prelude.{◌≡◌, ℕ, ◌<◌}
use Rattle.flat_graph.specs.Graph.{Graph}
use Rattle.icache.specs.Accesses.{Accesses}

-- a node below n accesses set s
abbrev pub IsAccessedBelow : Accesses → ℕ → ℕ → Type 0
IsAccessedBelow a n s = (y : ℕ) × (y < n) × (a.set y ≡ s)

-- evicting cache blocks of a task: the sets that its nodes access
abbrev pub IsEcb : Graph → Accesses → ℕ → Type 0
IsEcb g a s = IsAccessedBelow a g.size s
