-- The nodes before place k are checked.
use Rattle.flat_graph.specs.CodeGraph.{graph_of}
use Rattle.evict_sets.specs.ListedPart.{listed_of}
use Rattle.evict_sets.specs.Listing.{node_accesses}
use Rattle.cert_check.proofs.Judging.{StatesTo}
use Rattle.cert_check.proofs.states.judge_states.Given as goal

abbrev pub invariant-loop-k : goal.invariant-loop-k
invariant-loop-k l =
    StatesTo (graph_of l.listing.graph.now)
    (node_accesses l.listing.platform.now l.listing.graph.now) (listed_of l.listing.part.now)
    l.order l.blocks l.least l.k
