-- How the bound of a task ends: with the bound, or with one that is too large.
use Rattle.std.specs.Prelude.{ℕ, ◌<◌, ◌≤◌, ◌⊎◌, List}
use Rattle.flat_graph.specs.Graph.{Graph, IsGraph}
use Rattle.loop_regions.specs.Nest.{IsNested, Nest}
use Rattle.loop_regions.specs.Potentials.{Costs}
use Rattle.loop_regions.specs.Stated.{IsOnCycle}
use Rattle.exec_bound.specs.Costs.{IsBound, IsTooLarge}

-- the cycles of a bound, with the least potentials
abbrev pub HasBound : Graph → Nest → Costs → Type 0
HasBound g n c =
    (cycles : ℕ) × (nodes : List ℕ) × (loops : List ℕ) × IsBound g n c cycles nodes loops

-- a graph with nested regions of at least one iteration each, outside whose back edges no cycle is
-- left, has a bound, or it is too large
abbrev pub ABoundExists : Type 0
ABoundExists =
    (g : Graph) (n : Nest) (c : Costs) → IsGraph g → IsNested g n
    → ((y : ℕ) → IsOnCycle g n y → ⊥) → ((r : ℕ) → r < n.size → 1 ≤ n.bound r)
    → HasBound g n c ⊎ IsTooLarge g n c
