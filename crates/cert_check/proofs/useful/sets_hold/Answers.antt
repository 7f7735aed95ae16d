use Rattle.std.proofs.Common.{IsTrue, subst, sym, ◌∙◌}
use Rattle.std.proofs.lemmas.Bool.{false≢true}
use Rattle.crpd_base.specs.Sets.{has}
use Rattle.flat_graph.specs.CodeGraph.{graph_of}
use Rattle.evict_sets.specs.ListedPart.{listed_of}
use Rattle.evict_sets.specs.Listing.{node_accesses}
use Rattle.cert_check.proofs.UsefulSets.{has_member, is_member, sets_test}
use Rattle.cert_check.proofs.useful.sets_hold.Goals as goal

pub returns-then-has : goal.returns-then-has
returns-then-has c =
    sets_test (graph_of c.args.listing.now.graph.now)
    (node_accesses c.args.listing.now.platform.now c.args.listing.now.graph.now)
    (listed_of c.args.listing.now.part.now) c.args.node.0 c.args.listing.now.part.now.part.evicting
    c.args.listing.now.part.now.part.useful c.args.useful.now c.covers.result c.requires.useful
    (subst (λ x. IsTrue (has c.args.listing.now.part.now.part.evicting x)) c.cache_set.ensures.set
    (has_member c.args.listing.now.part.now.part.evicting c.cache_set.result
    (c.has.ensures.0 c.if-has.true)))
    c.covers.ensures

pub returns-else-has : goal.returns-else-has
returns-else-has c = (
  (λ t. absurd (false≢true (sym c.if-has.false ∙ t))),
  (λ M. c.has.ensures.1
      (is_member c.args.listing.now.part.now.part.evicting c.cache_set.result
      (subst (λ x. IsTrue (has c.args.listing.now.part.now.part.evicting x))
      (sym c.cache_set.ensures.set) M.own))),
)
