use Rattle.std.proofs.Common.{sym}
use Rattle.flat_graph.specs.CodeGraph.{graph_of}
use Rattle.evict_sets.specs.ListedPart.{listed_of}
use Rattle.evict_sets.specs.Listing.{node_accesses}
use Rattle.evict_sets.proofs.ListedAt.{entry_listed, entry_none, entry_useful}
use Rattle.cert_check.proofs.UsefulSets.{listed_at}
use Rattle.cert_check.proofs.useful.useful_next.Goals as goal

pub returns-in-Some : goal.returns-in-Some
returns-in-Some c =
    let part = c.args.listing.now.part.now in
    listed_at (graph_of c.args.listing.now.graph.now)
    (node_accesses c.args.listing.now.platform.now c.args.listing.now.graph.now)
    (listed_of c.args.listing.now.part.now)
    c.args.next.0 c.in-Some.entry.now.useful
    (entry_listed part c.args.next.0 c.in-Some.entry.now c.in-Some.ensures)
    (λ s. sym (entry_useful part c.args.next.0 c.in-Some.entry.now s c.in-Some.ensures))

pub returns-in-None : goal.returns-in-None
returns-in-None c =
    c.requires.follower c.args.next.0 c.requires.edge
    (entry_none c.args.listing.now.part.now c.args.next.0 c.in-None.ensures)
