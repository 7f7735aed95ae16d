use Rattle.std.proofs.Common.{◌≡◌, ◌<◌, ◌∙◌, sym, ap, subst, refl, Some}
use Rattle.std.proofs.Common.{None, All, length, slice_get}
use Rattle.std.proofs.Common.{arith}
use Rattle.std.proofs.lemmas.Option.{slice_get_read, same_Some}
use Rattle.code_map.specs.Words.{word_at}
use Rattle.rv_decode.specs.Flow.{flows}
use Rattle.flat_graph.specs.FlatGraph.{successors}
use Rattle.flat_graph.specs.Inner.GraphErrors.{IsNodeError}
use Rattle.flat_graph.specs.Inner.GraphParts.{AreNumbers}
use Rattle.flat_graph.specs.Inner.Ordered.{nodes_of}
use Rattle.flat_graph.specs.Inner.StoredGraph.{next_nodes}
use Rattle.flat_graph.proofs.Ends.{below}
use Rattle.flat_graph.proofs.Placed.{body_found, body_within, numbers_ranked, place_within}
use Rattle.flat_graph.proofs.Placed.{stands_at}
use Rattle.flat_graph.proofs.bodies.node_body.Goals as goal

pub overflow_cast-found : goal.overflow_cast-found
overflow_cast-found c =
    let points = c.args.ordered.now.points.items in
    let found = c.index.result.now in
    let within = place_within (word_at c.args.code.now.images) c.args.entry c.args.ordered.now
    c.requires.ordered c.args.place found
    (slice_get_read points (length points) c.args.place found refl c.requires.there
    c.index.ensures) in
    omega (arith, within, c.requires.few)

pub index-body-requires : goal.index-body-requires
index-body-requires c =
    let points = c.args.ordered.now.points.items in
    let found = c.index.result.now in
    let within = body_within (word_at c.args.code.now.images) c.args.entry c.args.ordered.now
    c.requires.ordered c.args.place found
    (slice_get_read points (length points) c.args.place found refl c.requires.there
    c.index.ensures) in
    omega (arith, within, c.args.ordered.now.bodies.ok)

pub renumbered-next-requires : goal.renumbered-next-requires
renumbered-next-requires c =
    let words = word_at c.args.code.now.images in
    let ordered = c.args.ordered.now in
    let points = ordered.points.items in
    let bodies = ordered.bodies.items in
    let found = c.index.result.now in
    let O = c.requires.ordered in
    let at : slice_get points c.args.place ≡ Some found =
    slice_get_read points (length points) c.args.place found refl c.requires.there
    c.index.ensures in
    let body : slice_get bodies found.place ≡ Some c.index-body.result.now =
    slice_get_read bodies (length bodies) found.place c.index-body.result.now refl
    (body_within words c.args.entry ordered O c.args.place found at) c.index-body.ensures in
    let node = stands_at words c.args.entry ordered O c.args.place found at in
    let known = body_found words c.args.entry ordered O c.args.place _ found (Some c.in-Some.known)
    node at (body ∙ ap Some c.in-Some.is) in
    subst (λ l. All (λ v. v < l) (next_nodes c.in-Some.known.next)) (O.count ∙ sym c.requires.count)
    (below O.found (next_nodes c.in-Some.known.next) _ known.next)

pub returns-in-Some-clause-body : goal.returns-in-Some-clause-body
returns-in-Some-clause-body c n e =
    let words = word_at c.args.code.now.images in
    let ordered = c.args.ordered.now in
    let points = ordered.points.items in
    let bodies = ordered.bodies.items in
    let found = c.index.result.now in
    let O = c.requires.ordered in
    let at : slice_get points c.args.place ≡ Some found =
    slice_get_read points (length points) c.args.place found refl c.requires.there
    c.index.ensures in
    let body : slice_get bodies found.place ≡ Some c.index-body.result.now =
    slice_get_read bodies (length bodies) found.place c.index-body.result.now refl
    (body_within words c.args.entry ordered O c.args.place found at) c.index-body.ensures in
    let known = body_found words c.args.entry ordered O c.args.place n found (Some c.in-Some.known)
    e at (body ∙ ap Some c.in-Some.is) in
    record {
      no_error = known.no_error;
      stands = known.stands;
      next = subst (λ l. AreNumbers (nodes_of ordered) l (successors (flows words) c.args.entry n))
          (sym c.renumbered-next.ensures)
          (numbers_ranked words c.args.entry ordered O c.args.ranks.now c.requires.ranks
          (next_nodes c.in-Some.known.next) (successors (flows words) c.args.entry n) known.next);
    }

pub error_at-requires : goal.error_at-requires
error_at-requires c =
    let words = word_at c.args.code.now.images in
    let ordered = c.args.ordered.now in
    let points = ordered.points.items in
    let bodies = ordered.bodies.items in
    let found = c.index.result.now in
    let O = c.requires.ordered in
    let at : slice_get points c.args.place ≡ Some found =
    slice_get_read points (length points) c.args.place found refl c.requires.there
    c.index.ensures in
    let body : slice_get bodies found.place ≡ Some c.index-body.result.now =
    slice_get_read bodies (length bodies) found.place c.index-body.result.now refl
    (body_within words c.args.entry ordered O c.args.place found at) c.index-body.ensures in
    body_found words c.args.entry ordered O c.args.place _ found None
    (stands_at words c.args.entry ordered O c.args.place found at) at
    (body ∙ ap Some c.in-None.is)

pub returns-in-None-clause-refused : goal.returns-in-None-clause-refused
returns-in-None-clause-refused c n e =
    let words = word_at c.args.code.now.images in
    let ordered = c.args.ordered.now in
    let points = ordered.points.items in
    let found = c.index.result.now in
    let at : slice_get points c.args.place ≡ Some found =
    slice_get_read points (length points) c.args.place found refl c.requires.there
    c.index.ensures in
    let node = stands_at words c.args.entry ordered c.requires.ordered c.args.place found at in
    subst (λ m. IsNodeError (flows words) c.args.entry m c.error_at.result)
    (same_Some _ n (sym node ∙ e)) c.error_at.ensures
