use Rattle.std.proofs.Common.{◌∙◌}
use Rattle.flat_graph.specs.CodeGraph.{graph_of}
use Rattle.evict_sets.specs.ListedPart.{listed_of}
use Rattle.evict_sets.specs.Listing.{node_accesses}
use Rattle.evict_sets.proofs.ListedAt.{entry_listed, entry_state}
use Rattle.cert_check.proofs.StateTests.{starts}
use Rattle.cert_check.proofs.states.starts_empty.Goals as goal

pub returns-in-Some : goal.returns-in-Some
returns-in-Some c =
    starts (graph_of c.args.listing.now.graph.now)
    (node_accesses c.args.listing.now.platform.now c.args.listing.now.graph.now)
    (listed_of c.args.listing.now.part.now) c.args.node.0 c.in-Some.entry.now.sure c.is_empty.result
    (entry_listed c.args.listing.now.part.now c.args.node.0 c.in-Some.entry.now c.in-Some.ensures)
    (λ s. entry_state c.args.listing.now.part.now c.args.node.0 c.in-Some.entry.now s
    c.in-Some.ensures)
    c.is_empty.ensures
    (c.if-node-first.false ∙ c.first.ensures)
