use Rattle.flat_graph.specs.CodeGraph.{graph_of}
use Rattle.loop_regions.specs.Inner.FoundRegions.{nest_in}
use Rattle.loop_regions.specs.Inner.ForwardPaths.{NoneBelow}
use Rattle.loop_regions.proofs.cycles.least_on_cycle.Given as goal

abbrev pub invariant-loop-y : goal.invariant-loop-y
invariant-loop-y l = NoneBelow (graph_of l.graph) (nest_in l.regions) l.y
