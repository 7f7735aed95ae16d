use Rattle.std.proofs.Common.{◌≡◌, IsTrue, true, refl, sym, subst, ◌∙◌, if◌then◌else◌, ◌==◌}
use Rattle.std.proofs.lemmas.Bool.{false≢true}
use Rattle.crpd_base.specs.Sets.{has}
use Rattle.flat_graph.specs.CodeGraph.{graph_of}
use Rattle.evict_sets.specs.ListedPart.{listed_of}
use Rattle.evict_sets.specs.Listing.{node_accesses}
use Rattle.evict_sets.proofs.ListedAt.{entry_listed, entry_none, entry_useful}
use Rattle.cert_check.proofs.UsefulSets.{is_member, has_member, useful_test, own_missing}
use Rattle.cert_check.proofs.UsefulSets.{unlisted_meets}
use Rattle.cert_check.proofs.useful.useful_holds.Goals as goal
use Rattle.cert_check.proofs.useful.useful_holds.Goals.{else-hit-via-then-hit+else-not-has}
use Rattle.cert_check.proofs.useful.useful_holds.Goals.{else-hit-via-else-hit}

pub returns-in_default : goal.returns-in_default
returns-in_default c = (
  (λ t. unlisted_meets (graph_of c.args.listing.now.graph.now)
      (node_accesses c.args.listing.now.platform.now c.args.listing.now.graph.now)
      (listed_of c.args.listing.now.part.now) c.args.node.0
      (entry_none c.args.listing.now.part.now c.args.node.0 c.in_default.ensures)),
  (λ M. refl),
)

pub returns-then-not-has : goal.returns-then-not-has
returns-then-not-has c = (
  (λ t. absurd (false≢true t)),
  (λ M. absurd
      (own_missing (graph_of c.args.listing.now.graph.now)
      (node_accesses c.args.listing.now.platform.now c.args.listing.now.graph.now)
      (listed_of c.args.listing.now.part.now) c.args.node.0 c.in-Some.entry.now.useful
      c.args.behind.now
      (entry_listed c.args.listing.now.part.now c.args.node.0 c.in-Some.entry.now c.in-Some.ensures)
      (λ s. sym
      (entry_useful c.args.listing.now.part.now c.args.node.0 c.in-Some.entry.now s
      c.in-Some.ensures))
      c.requires.behind (c.requires.hit.0 c.if-hit.true)
      (λ h. false≢true (sym c.if-not-has.true
      ∙ c.has.ensures.1
      (is_member c.in-Some.entry.now.useful c.cache_set-own.result
      (subst (λ x. IsTrue (has c.in-Some.entry.now.useful x))
      (sym c.cache_set-own.ensures.set) h)))) M)),
)

pub returns : goal.returns
returns c =
    useful_test (graph_of c.args.listing.now.graph.now)
    (node_accesses c.args.listing.now.platform.now c.args.listing.now.graph.now)
    (listed_of c.args.listing.now.part.now) c.args.node.0 c.in-Some.entry.now.useful
    c.args.behind.now c.put.new.self c.covers.result
    (entry_listed c.args.listing.now.part.now c.args.node.0 c.in-Some.entry.now c.in-Some.ensures)
    (λ s. sym
    (entry_useful c.args.listing.now.part.now c.args.node.0 c.in-Some.entry.now s
    c.in-Some.ensures))
    c.requires.behind
    (λ hit. elim c.else-hit.branch [
      | else-hit-via-then-hit+else-not-has w ↦
          subst (λ x. IsTrue (has c.in-Some.entry.now.useful x)) c.cache_set-own.ensures.set
          (has_member c.in-Some.entry.now.useful c.cache_set-own.result
          (w.has.ensures.0 w.if-not-has.false))
      | else-hit-via-else-hit w ↦ absurd (false≢true (sym w.if-hit.false ∙ c.requires.hit.1 hit))
    ])
    (λ t. subst (λ x. has c.put.new.self t
    ≡ (if t == x then true else has c.in-Some.entry.now.useful t)) c.cache_set-own.ensures.set
    (c.put.ensures t))
    c.covers.ensures
