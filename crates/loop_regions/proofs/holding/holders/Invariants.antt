use Rattle.std.proofs.Common.{◌≡◌, ◌<◌, ◌↔◌, ℕ, IsTrue, length}
use Rattle.flat_graph.specs.CodeGraph.{graph_of, places_of}
use Rattle.loop_regions.specs.CodeNest.{has, row}
use Rattle.loop_regions.specs.Inner.Heads.{IsHeldBy}
use Rattle.loop_regions.proofs.holding.holders.Given as goal

abbrev pub invariant-loop-r : goal.invariant-loop-r
invariant-loop-r l =
    (length l.holders.items ≡ (graph_of l.graph).size)
    × ((y r : ℕ) → y < (graph_of l.graph).size
    → IsTrue (has (row l.holders.items y) r)
    ↔ ((r < l.r) × IsHeldBy (places_of l.graph) l.loops l.heads y r))
