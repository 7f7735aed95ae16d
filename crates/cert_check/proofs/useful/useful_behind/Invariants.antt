-- The sets that are useful at the successors so far.
use Rattle.std.proofs.Common.{map}
use Rattle.crpd_base.specs.declared.data.NodeId.{NodeId}
use Rattle.flat_graph.specs.CodeGraph.{graph_of}
use Rattle.evict_sets.specs.ListedPart.{listed_of}
use Rattle.evict_sets.specs.Listing.{node_accesses}
use Rattle.cert_check.proofs.UsefulSets.{IsUsefulAtSome}
use Rattle.cert_check.proofs.useful.useful_behind.Given as goal

abbrev pub invariant-loop-next : goal.invariant-loop-next
invariant-loop-next l =
    IsUsefulAtSome (graph_of l.listing.graph.now)
    (node_accesses l.listing.platform.now l.listing.graph.now) (listed_of l.listing.part.now)
    (map (λ (n : NodeId). n.0) l.yielded) l.sets
