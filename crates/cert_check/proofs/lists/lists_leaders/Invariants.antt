-- The leaders below the node are listed.
use Rattle.flat_graph.specs.CodeGraph.{graph_of}
use Rattle.evict_sets.specs.ListedPart.{listed_of}
use Rattle.cert_check.proofs.Leaders.{ListsBelow}
use Rattle.cert_check.proofs.lists.lists_leaders.Given as goal

abbrev pub invariant-loop-node : goal.invariant-loop-node
invariant-loop-node l =
    ListsBelow (graph_of l.listing.graph.now) (listed_of l.listing.part.now) l.node
