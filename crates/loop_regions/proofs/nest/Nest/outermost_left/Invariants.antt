-- The regions round the source so far are left.
use Rattle.flat_graph.specs.CodeGraph.{graph_of}
use Rattle.loop_regions.specs.CodeNest.{nest_of}
use Rattle.loop_regions.proofs.Climbs.{Climbs, still_outside}
use Rattle.loop_regions.proofs.nest.Nest.outermost_left.Given as goal

abbrev pub invariant-loop-round : goal.invariant-loop-round
invariant-loop-round l = Climbs (nest_of l.self) l.fn.source.0 l.target.0 l.left l.round

abbrev pub decreases-loop-round : goal.decreases-loop-round
decreases-loop-round l = still_outside (graph_of l.graph) (nest_of l.self) l.round
