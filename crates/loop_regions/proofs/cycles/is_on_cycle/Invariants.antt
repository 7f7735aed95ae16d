use Rattle.flat_graph.specs.CodeGraph.{graph_of}
use Rattle.loop_regions.specs.Inner.FoundRegions.{nest_in}
use Rattle.loop_regions.specs.Inner.ForwardPaths.{IsSearch, to_search}
use Rattle.loop_regions.proofs.cycles.is_on_cycle.Given as goal

abbrev pub invariant-loop-u : goal.invariant-loop-u
invariant-loop-u l =
    IsSearch (graph_of l.graph) (nest_in l.regions) l.y l.search.seen.items l.search.waiting.items

abbrev pub decreases-loop-u : goal.decreases-loop-u
decreases-loop-u l = to_search l.search.seen.items l.search.waiting.items
