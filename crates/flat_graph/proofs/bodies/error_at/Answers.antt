use Rattle.std.proofs.Common.{◌≡◌, ◌∙◌, ap, subst, None, slice_index_or, []}
use Rattle.code_map.specs.Words.{word_at}
use Rattle.rv_decode.specs.Flow.{flows}
use Rattle.flat_graph.specs.FlatGraph.{error_of}
use Rattle.flat_graph.specs.Inner.GraphErrors.{IsNodeError}
use Rattle.flat_graph.proofs.bodies.error_at.Goals as goal

pub unreachable-requires : goal.unreachable-requires
unreachable-requires c =
    let calls : c.calls_of-calls.result.now
    ≡ slice_index_or c.args.ordered.now.lists.items c.args.point.now.context [] =
    c.calls_of-calls.ensures
    ∙ ap (λ l. slice_index_or l c.args.point.now.context []) c.as_slice.ensures.value in
    c.requires
    (subst (λ k. error_of (flows (word_at c.args.code.now.images)) c.args.entry
    (record { context = k; address = c.args.point.now.address }) ≡ None) calls
    c.in-Ok.ensures.error)

pub returns : goal.returns
returns c =
    let calls : c.calls_of-calls.result.now
    ≡ slice_index_or c.args.ordered.now.lists.items c.args.point.now.context [] =
    c.calls_of-calls.ensures
    ∙ ap (λ l. slice_index_or l c.args.point.now.context []) c.as_slice.ensures.value in
    subst (λ k. IsNodeError (flows (word_at c.args.code.now.images)) c.args.entry
    (record { context = k; address = c.args.point.now.address }) c.in-Err.error) calls
    c.in-Err.ensures.error
