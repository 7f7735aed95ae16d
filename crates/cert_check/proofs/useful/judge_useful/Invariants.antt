-- The nodes from the last place so far on are checked.
use Rattle.std.proofs.Common.{◌-◌, length}
use Rattle.flat_graph.specs.CodeGraph.{graph_of}
use Rattle.evict_sets.specs.ListedPart.{listed_of}
use Rattle.evict_sets.specs.Listing.{node_accesses}
use Rattle.evict_sets.specs.CacheClauses.{UsefulMeets}
use Rattle.cert_check.proofs.Judging.{UsefulFrom}
use Rattle.cert_check.proofs.useful.judge_useful.Given as goal

abbrev pub invariant-loop-done : goal.invariant-loop-done
invariant-loop-done l =
    UsefulFrom (graph_of l.listing.graph.now)
    (node_accesses l.listing.platform.now l.listing.graph.now) (listed_of l.listing.part.now)
    (UsefulMeets (graph_of l.listing.graph.now)
    (node_accesses l.listing.platform.now l.listing.graph.now) (listed_of l.listing.part.now))
    l.order l.useful l.least (length l.order - l.done)
