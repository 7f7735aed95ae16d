-- The nodes written so far, and the one that continues the last of them.
use Rattle.std.proofs.Common.{◌+◌, ◌-◌, length}
use Rattle.flat_graph.specs.CodeGraph.{graph_of}
use Rattle.evict_sets.specs.ListedPart.{listed_of}
use Rattle.evict_sets.proofs.Chains.{ChainTo}
use Rattle.evict_sets.proofs.listing.Listing.write_chain.Given as goal

abbrev pub invariant-loop-last : goal.invariant-loop-last
invariant-loop-last l =
    ChainTo (graph_of l.self.graph.now) (listed_of l.self.part.now) l.order l.count
    (l.fn.node.0 + 1) l.last

abbrev pub decreases-loop-last : goal.decreases-loop-last
decreases-loop-last l = length l.order - l.count
