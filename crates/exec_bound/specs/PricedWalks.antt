-- What a bound says of walks: costs and prices.
use Rattle.std.specs.Prelude.{ℕ, ◌+◌, ◌≤◌, List, ◌∷◌, IsTrue}
use Rattle.flat_graph.specs.Graph.{Graph, IsWalk, IsGraph}
use Rattle.loop_regions.specs.Nest.{Nest, IsNested, IsKeptWalk}
use Rattle.loop_regions.specs.Potentials.{Costs, PricesAhead, walk_cost}
use Rattle.exec_bound.specs.Costs.{IsBound}

-- where no back edge has a price, each kept walk to a completing node costs at most the bound, with
-- its edge to the end and the prices of all its edges
abbrev pub PricedWalks : Type 0
PricedWalks =
    (g : Graph) (n : Nest) (c : Costs) (cycles : ℕ) (nodes loops : List ℕ) (y : ℕ)
    (before : List ℕ) →
    IsGraph g → IsNested g n → PricesAhead g n c → IsBound g n c cycles nodes loops
    → IsWalk g (y ∷ before) → IsKeptWalk n (y ∷ before) → IsTrue (c.answers y) →
    walk_cost c (y ∷ before) + c.end y ≤ cycles
