-- None of the successors so far is waited for.
use Rattle.std.proofs.Common.{map}
use Rattle.crpd_base.specs.declared.data.NodeId.{NodeId}
use Rattle.flat_graph.specs.CodeGraph.{graph_of}
use Rattle.loop_regions.specs.CodeNest.{nest_of}
use Rattle.exec_bound.proofs.Values.{NoneWaits}
use Rattle.exec_bound.proofs.costed.Costed.unsettled_after.Given as goal

abbrev pub invariant-loop-next : goal.invariant-loop-next
invariant-loop-next l =
    NoneWaits (graph_of l.self.graph.now) (nest_of l.self.nest.now) l.values.settled.items
    l.node.0 (map (λ (n : NodeId). n.0) l.yielded)
