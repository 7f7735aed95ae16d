use Rattle.std.proofs.Common.{◌≡◌, ◌<◌, length, All}
use Rattle.flat_graph.specs.CodeGraph.{graph_of}
use Rattle.loop_regions.proofs.ranks.take_away.Given as goal

abbrev pub invariant-loop-next : goal.invariant-loop-next
invariant-loop-next l =
    (length l.arrivals.items ≡ length l.initial.arrivals.items)
    × All (λ v. v < (graph_of l.graph).size) l.ready.items
