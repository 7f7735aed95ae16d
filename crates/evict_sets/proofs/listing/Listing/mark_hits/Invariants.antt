-- The hits among the nodes before place k are known.
use Rattle.flat_graph.specs.CodeGraph.{graph_of}
use Rattle.evict_sets.specs.ListedPart.{listed_of}
use Rattle.evict_sets.specs.Listing.{node_accesses}
use Rattle.evict_sets.proofs.HitsTo.{HitsTo}
use Rattle.evict_sets.proofs.listing.Listing.mark_hits.Given as goal

abbrev pub invariant-loop-k : goal.invariant-loop-k
invariant-loop-k l =
    HitsTo (graph_of l.self.graph.now) (node_accesses l.self.platform.now l.self.graph.now)
    (listed_of l.self.part.now) l.order l.blocks l.hits l.k
