use Rattle.std.proofs.Common.{◌≡◌, ◌<◌, sym, subst, refl, arith, length, get_or}
use Rattle.std.proofs.lemmas.Option.{slice_get_within, slice_get-get_or, slice_get_read}
use Rattle.std.proofs.lemmas.Option.{get_or_from_slice_get}
use Rattle.code_map.specs.Words.{word_at}
use Rattle.flat_graph.specs.CodeGraph.{IsCodeGraph}
use Rattle.flat_graph.specs.Inner.Ordered.{IsEntryAt}
use Rattle.flat_graph.specs.Inner.StoredGraph.{IsStoredGraph, stored_graph}
use Rattle.flat_graph.proofs.Placed.{place_within, own_places, entry_ranked}
use Rattle.flat_graph.proofs.Together.{few_kept}
use Rattle.flat_graph.proofs.task_graph.graph_from.Goals as goal

pub ranks-requires-clause-below : goal.ranks-requires-clause-below
ranks-requires-clause-below c k d lt =
    let points = c.in_ok-ordered.ordered.points.items in
    place_within (word_at c.args.code.now.images) c.args.entry c.in_ok-ordered.ordered
    c.in_ok-ordered.ensures.reached k (get_or points k d) (slice_get-get_or points k d lt)

pub ranks-requires-clause-apart : goal.ranks-requires-clause-apart
ranks-requires-clause-apart c =
    own_places (word_at c.args.code.now.images) c.args.entry c.in_ok-ordered.ordered
    c.in_ok-ordered.ensures.reached

pub index-first-requires : goal.index-first-requires
index-first-requires c =
    let O = c.in_ok-ordered.ensures.reached in
    omega (arith, slice_get_within O.found 0 _ O.first, O.count, c.in_ok-ranks.ensures.count)

pub nodes_from-requires-clause-first : goal.nodes_from-requires-clause-first
nodes_from-requires-clause-first c =
    let O = c.in_ok-ordered.ensures.reached in
    let ranks = c.in_ok-ranks.ranks.items in
    let within : 0 < length ranks =
    omega (arith, slice_get_within O.found 0 _ O.first, O.count, c.in_ok-ranks.ensures.count) in
    let first : get_or ranks 0 0 ≡ c.index-first.result.now =
    get_or_from_slice_get ranks 0 c.index-first.result.now 0
    (slice_get_read ranks (length ranks) 0 c.index-first.result.now refl within
    c.index-first.ensures) in
    subst (IsEntryAt c.args.entry c.in_ok-ordered.ordered) first
    (entry_ranked (word_at c.args.code.now.images) c.args.entry c.in_ok-ordered.ordered O
    c.in_ok-ranks.ranks.items c.in_ok-ranks.ensures.ranks)

pub invariant_of-result : goal.invariant_of-result
invariant_of-result c =
    let first = c.index-first.result.now in
    subst (λ l. IsStoredGraph l c.new-2.result first) (sym c.new.ensures)
    (subst (λ n. IsStoredGraph c.in_ok-ordered.ordered.lists.items n first) (sym c.new-2.ensures)
    c.in_ok-nodes.ensures.kept.kept)

pub returns-clause-graph : goal.returns-clause-graph
returns-clause-graph c =
    let words = word_at c.args.code.now.images in
    let first = c.index-first.result.now in
    subst (λ l. IsCodeGraph words c.args.entry (stored_graph l c.new-2.result first))
    (sym c.new.ensures)
    (subst (λ n. IsCodeGraph words c.args.entry
    (stored_graph c.in_ok-ordered.ordered.lists.items n first)) (sym c.new-2.ensures)
    c.in_ok-nodes.ensures.kept.of_code)

pub returns-clause-few : goal.returns-clause-few
returns-clause-few c =
    few_kept _ c.new-2.result c.in_ok-nodes.nodes.items c.new-2.ensures
    c.in_ok-nodes.ensures.kept.kept.few
