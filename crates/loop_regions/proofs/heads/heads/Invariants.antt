use Rattle.flat_graph.specs.CodeGraph.{places_of}
use Rattle.loop_regions.specs.Inner.Heads.{AreHeads}
use Rattle.loop_regions.proofs.heads.heads.Given as goal

abbrev pub invariant-loop-node : goal.invariant-loop-node
invariant-loop-node l = AreHeads (places_of l.graph) l.loops l.node l.heads.items
