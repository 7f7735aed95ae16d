use Rattle.std.proofs.Common.{◌≡◌, ◌<◌, ℕ, All, refl, ap, sym, subst, ◌∙◌}
use Rattle.crpd_base.specs.declared.data.NodeState.{NodeState}
use Rattle.flat_graph.specs.CodeGraph.{graph_of}
use Rattle.evict_sets.specs.ListedPart.{block_of_set, listed_of}
use Rattle.evict_sets.specs.Listing.{node_accesses}
use Rattle.evict_sets.proofs.ListedAt.{entry_listed, entry_none, entry_state, entry_in}
use Rattle.cert_check.proofs.StateTests.{edge_listed, edge_unlisted}
use Rattle.cert_check.proofs.states.edge_state_holds.Goals as goal

pub are_held-requires-clause-low : goal.are_held-requires-clause-low
are_held-requires-clause-low c =
    subst (λ xs. All (λ (x : ℕ × ℕ). x.0 < 512) xs) (sym c.as_slice.ensures)
    (entry_in (λ (s : NodeState). All (λ (x : ℕ × ℕ). x.0 < 512) s.sure)
    c.args.listing.now.part.now.states c.args.next.0 c.in-Some.entry.now c.requires.case.sets
    c.in-Some.ensures)

pub returns-in-Some : goal.returns-in-Some
returns-in-Some c =
    let same : (s : ℕ) → (listed_of c.args.listing.now.part.now).state c.args.next.0 s
    ≡ block_of_set c.as_slice.result.now s =
    λ s. entry_state c.args.listing.now.part.now c.args.next.0 c.in-Some.entry.now s
    c.in-Some.ensures ∙ ap (λ xs. block_of_set xs s) (sym c.as_slice.ensures) in
    edge_listed (graph_of c.args.listing.now.graph.now)
    (node_accesses c.args.listing.now.platform.now c.args.listing.now.graph.now)
    (listed_of c.args.listing.now.part.now) c.args.node.0 c.args.next.0 c.args.after.now
    c.are_held.result
    (entry_listed c.args.listing.now.part.now c.args.next.0 c.in-Some.entry.now c.in-Some.ensures)
    c.requires.after (
      (λ t s m e. c.are_held.ensures.0 t s m (sym (same s) ∙ e)),
      (λ h. c.are_held.ensures.1 (λ s m e. h s m (same s ∙ e))),
    )

pub returns-in-None : goal.returns-in-None
returns-in-None c = (
  (λ t. edge_unlisted (graph_of c.args.listing.now.graph.now)
      (node_accesses c.args.listing.now.platform.now c.args.listing.now.graph.now)
      (listed_of c.args.listing.now.part.now) c.args.node.0 c.args.next.0 c.requires.edge
      c.requires.next c.requires.case.leaders
      (entry_none c.args.listing.now.part.now c.args.next.0 c.in-None.ensures)),
  (λ h. refl),
)
