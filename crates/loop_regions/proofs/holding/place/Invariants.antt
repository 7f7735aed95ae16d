use Rattle.std.proofs.Common.{◌≡◌, ◌<◌, ◌≤◌, ◌∷◌, [], ◌++◌, ℕ, length, if◌then◌else◌}
use Rattle.flat_graph.specs.CodeGraph.{graph_of, places_of}
use Rattle.loop_regions.specs.CodeNest.{row}
use Rattle.loop_regions.specs.Stated.{region_holds}
use Rattle.loop_regions.proofs.holding.place.Given as goal

abbrev pub invariant-loop-y : goal.invariant-loop-y
invariant-loop-y l =
    (length l.holders.items ≡ (graph_of l.graph).size)
    × ((z : ℕ) → z < l.y → z < (graph_of l.graph).size
    → row l.holders.items z ≡ row l.initial.holders.items z
    ++ (if region_holds (places_of l.graph) l.stated ((places_of l.graph).context l.head) z
    then l.r ∷ [] else []))
    × ((z : ℕ) → l.y ≤ z → row l.holders.items z ≡ row l.initial.holders.items z)
