use Rattle.std.proofs.Common.{◌≡◌, ◌<◌, length, All}
use Rattle.flat_graph.specs.CodeGraph.{graph_of}
use Rattle.loop_regions.proofs.ranks.ranks.Given as goal

abbrev pub invariant-loop-ranked : goal.invariant-loop-ranked
invariant-loop-ranked l =
    (length l.arrivals.items ≡ (graph_of l.graph).size)
    × (length l.ranks.items ≡ (graph_of l.graph).size)
    × All (λ v. v < (graph_of l.graph).size) l.ready.items
