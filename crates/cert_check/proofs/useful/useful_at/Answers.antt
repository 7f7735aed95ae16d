use Rattle.std.proofs.Common.{◌≡◌, sym, subst, if◌then◌else◌, ◌==◌}
use Rattle.crpd_base.specs.Sets.{has}
use Rattle.flat_graph.specs.CodeGraph.{graph_of}
use Rattle.evict_sets.specs.ListedPart.{listed_of}
use Rattle.evict_sets.specs.Listing.{node_accesses}
use Rattle.evict_sets.proofs.ListedAt.{entry_listed, entry_none, entry_useful}
use Rattle.cert_check.proofs.UsefulSets.{listed_at, unlisted_at}
use Rattle.cert_check.proofs.useful.useful_at.Goals as goal

pub returns-in-Some : goal.returns-in-Some
returns-in-Some c =
    listed_at (graph_of c.args.listing.now.graph.now)
    (node_accesses c.args.listing.now.platform.now c.args.listing.now.graph.now)
    (listed_of c.args.listing.now.part.now) c.args.node.0 c.in-Some.entry.now.useful
    (entry_listed c.args.listing.now.part.now c.args.node.0 c.in-Some.entry.now c.in-Some.ensures)
    (λ s. sym
    (entry_useful c.args.listing.now.part.now c.args.node.0 c.in-Some.entry.now s
    c.in-Some.ensures))

pub returns-in-None : goal.returns-in-None
returns-in-None c =
    unlisted_at (graph_of c.args.listing.now.graph.now)
    (node_accesses c.args.listing.now.platform.now c.args.listing.now.graph.now)
    (listed_of c.args.listing.now.part.now) c.args.node.0 c.args.hit c.args.behind.now
    c.put.new.self
    (entry_none c.args.listing.now.part.now c.args.node.0 c.in-None.ensures) c.requires.hit
    c.requires.behind
    (λ t. subst (λ x. has c.put.new.self t
    ≡ (if t == x then c.args.hit else has c.args.behind.now t)) c.cache_set.ensures.set
    (c.put.ensures t))
