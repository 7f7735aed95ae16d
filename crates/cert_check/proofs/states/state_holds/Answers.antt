use Rattle.std.proofs.Common.{sym, ◌∙◌}
use Rattle.std.proofs.lemmas.Bool.{false≢true}
use Rattle.flat_graph.specs.CodeGraph.{graph_of}
use Rattle.evict_sets.specs.ListedPart.{listed_of}
use Rattle.evict_sets.specs.Listing.{node_accesses}
use Rattle.cert_check.proofs.StateTests.{meets, meets_all}
use Rattle.cert_check.proofs.states.state_holds.Goals as goal

pub returns-then-not-starts_empty : goal.returns-then-not-starts_empty
returns-then-not-starts_empty c = (
  (λ holds. absurd (false≢true holds)),
  (λ M. absurd (false≢true (sym c.if-not-starts_empty.true ∙ c.starts_empty.ensures.1 M.first))),
)

pub returns : goal.returns
returns c =
    let g = graph_of c.args.listing.now.graph.now in
    let a = node_accesses c.args.listing.now.platform.now c.args.listing.now.graph.now in
    let l = listed_of c.args.listing.now.part.now in (
      (λ t.
          meets g a l c.args.node.0 (c.starts_empty.ensures.0 c.if-not-starts_empty.false)
          (c.edge_states_hold.ensures.0 t)),
      (λ M.
          c.edge_states_hold.ensures.1 (meets_all g a l c.args.node.0 c.requires.node M)),
    )
