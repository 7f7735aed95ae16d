-- The states at the successors so far hold.
use Rattle.std.proofs.Common.{All, map}
use Rattle.crpd_base.specs.declared.data.NodeId.{NodeId}
use Rattle.flat_graph.specs.CodeGraph.{graph_of}
use Rattle.evict_sets.specs.ListedPart.{listed_of}
use Rattle.evict_sets.specs.Listing.{node_accesses}
use Rattle.cert_check.specs.Inner.JudgedNodes.{EdgeStateMeets}
use Rattle.cert_check.proofs.states.edge_states_hold.Given as goal

abbrev pub invariant-loop-next : goal.invariant-loop-next
invariant-loop-next l =
    All (EdgeStateMeets (graph_of l.listing.graph.now)
    (node_accesses l.listing.platform.now l.listing.graph.now) (listed_of l.listing.part.now)
    l.node.0) (map (λ (n : NodeId). n.0) l.yielded)
