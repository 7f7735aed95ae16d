use Rattle.std.proofs.Common.{◌≡◌, ◌∙◌, ◌++◌, ◌∷◌, [], refl, ap, map}
use Rattle.std.proofs.Common.{get_or, arith, option_map, length}
use Rattle.std.proofs.Common.{slice_get, Some}
use Rattle.std.proofs.lemmas.List.{length-map}
use Rattle.std.proofs.lemmas.Option.{slice_get-get_or, slice_get-map, slice_get_within}
use Rattle.std.proofs.lemmas.Option.{slice_get_read}
use Rattle.rv_decode.specs.declared.Ins.TheVariants.{Lui}
use Rattle.flat_graph.specs.Inner.Leaders.{is_leading}
use Rattle.flat_graph.specs.Inner.Points.{points_of}
use Rattle.flat_graph.specs.declared.graph.NextNodes.TheVariants.{Ends}
use Rattle.flat_graph.specs.declared.leaders.Mark.TheVariants.{Unmet}
use Rattle.flat_graph.specs.declared.graph.NodeBody.{NodeBody}
use Rattle.flat_graph.specs.declared.points.FoundPoint.{FoundPoint}
use Rattle.flat_graph.proofs.Placed.{point_at}
use Rattle.flat_graph.proofs.Together.{stored, stored_more}
use Rattle.flat_graph.proofs.task_graph.stored_nodes.Goals as goal

pub loop-place-preserved : goal.loop-place-preserved
loop-place-preserved c =
    let k = c.loop-place.place in
    let no_body : NodeBody = record { ins = Lui 0 0; next = Ends } in
    let points = c.args.ordered.now.points.items in
    let marks = c.args.marks.now in
    let found = c.index-found.result.now in
    let at : slice_get points k ≡ Some found =
    slice_get_read points (length points) k found refl (omega arith) c.index-found.ensures in
    let body : NodeBody = get_or c.args.bodies.now k no_body in
    record {
      count = omega (arith, c.in_ok-push.ensures.len);
      stored_nodes =
          stored_more (points_of points) c.args.bodies.now (map is_leading marks)
          c.loop-place.stored_nodes.items c.push.new.self.items k found.point body
          (is_leading (get_or marks k Unmet)) c.loop-place.invariant.count
          (point_at points k found at)
          (slice_get-get_or c.args.bodies.now k no_body (omega arith))
          (slice_get-map is_leading marks k
          ∙ ap (option_map is_leading) (slice_get-get_or marks k Unmet (omega arith)))
          (c.in_ok-push.ensures.items
          ∙ ap (λ b. c.loop-place.stored_nodes.items ++ stored found.point body b ∷ [])
          c.is_leader.ensures)
          c.loop-place.invariant.stored_nodes;
    }

pub returns-clause-stored_nodes : goal.returns-clause-stored_nodes
returns-clause-stored_nodes c k s x b es =
    let points = c.args.ordered.now.points.items in
    let within = slice_get_within (points_of points) k s es in
    let same = length-map points (λ (p : FoundPoint). p.point) in
    c.loop-place.invariant.stored_nodes k s x b (omega arith) es
