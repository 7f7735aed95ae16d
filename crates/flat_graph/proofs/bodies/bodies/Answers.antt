use Rattle.std.proofs.Common.{◌≡◌, sym, subst, arith, slice_get, Some}
use Rattle.std.proofs.lemmas.Result.{err_from_is_err_and}
use Rattle.crpd_base.proofs.Elements.{some_at}
use Rattle.code_map.specs.Words.{word_at}
use Rattle.flat_graph.specs.Inner.GraphParts.{AreNodeBodies}
use Rattle.flat_graph.specs.Inner.Ordered.{nodes_of}
use Rattle.flat_graph.proofs.NodeBodies.{bodies_more, refused_body}
use Rattle.flat_graph.proofs.Placed.{nodes_count}
use Rattle.flat_graph.proofs.bodies.bodies.Goals as goal

pub loop-place-preserved : goal.loop-place-preserved
loop-place-preserved c =
    let words = word_at c.args.code.now.images in
    let nodes = nodes_of c.args.ordered.now in
    let n = some_at nodes c.loop-place.place (omega (arith, nodes_count c.args.ordered.now)) in
    record {
      count = omega (arith, c.in_ok-push.ensures.len);
      bodies = subst (AreNodeBodies words c.args.entry nodes) (sym c.in_ok-push.ensures.items)
          (bodies_more words c.args.entry nodes c.loop-place.bodies.items c.in_ok-node_body.field-0
          n.0 c.loop-place.invariant.bodies
          (subst (λ k. slice_get nodes k ≡ Some n.0) (sym c.loop-place.invariant.count) n.1)
          (c.in_ok-node_body.ensures.body n.0 n.1));
    }

pub returns-in_err-node_body-clause-refused : goal.returns-in_err-node_body-clause-refused
returns-in_err-node_body-clause-refused c =
    let words = word_at c.args.code.now.images in
    let nodes = nodes_of c.args.ordered.now in
    let n = some_at nodes c.loop-place.place (omega (arith, nodes_count c.args.ordered.now)) in
    let p = err_from_is_err_and c.from_residual-in_err-node_body.result
    c.from_residual-in_err-node_body.ensures.1 in
    rw (p.1, p.2)
    (refused_body words c.args.entry nodes c.loop-place.bodies.items n.0
    c.in_err-node_body.field-0.0 c.requires.ordered.numbering
    (omega (arith, nodes_count c.args.ordered.now, c.requires.few)) c.loop-place.invariant.bodies
    (subst (λ k. slice_get nodes k ≡ Some n.0) (sym c.loop-place.invariant.count) n.1)
    (c.in_err-node_body.ensures.refused n.0 n.1))
