-- The listed nodes below the node are written, with the unlisted ones that continue them.
use Rattle.flat_graph.specs.CodeGraph.{graph_of}
use Rattle.evict_sets.specs.ListedPart.{listed_of}
use Rattle.evict_sets.proofs.Chains.{OrderTo}
use Rattle.evict_sets.proofs.listing.Listing.write_order.Given as goal

abbrev pub invariant-loop-node : goal.invariant-loop-node
invariant-loop-node l =
    OrderTo (graph_of l.self.graph.now) (listed_of l.self.part.now) l.order l.count l.node
