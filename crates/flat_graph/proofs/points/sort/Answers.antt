use Rattle.std.proofs.Common.{ap, is_lt}
use Rattle.std.proofs.lemmas.Fn.{always_returns_same}
use Rattle.std.proofs.lemmas.List.Sorted.{ranks_by}
use Rattle.flat_graph.specs.Inner.NumberingOrder.{flat_cmp}
use Rattle.flat_graph.specs.Inner.Points.{point_node}
use Rattle.flat_graph.specs.declared.points.FoundPoint.{FoundPoint}
use Rattle.flat_graph.proofs.Found.{on_ok_map}
use Rattle.flat_graph.proofs.Order.{flat_order}
use Rattle.flat_graph.proofs.points.sort.Goals as goal

pub returns-clause-sorted : goal.returns-clause-sorted
returns-clause-sorted c =
    on_ok_map c.sort_by.result _ _
    (λ up. up
    (λ (s t : FoundPoint). is_lt (flat_cmp (point_node c.args.lists.now s.point)
    (point_node c.args.lists.now t.point)))
    (ranks_by flat_order (λ (s : FoundPoint). point_node c.args.lists.now s.point))
    (always_returns_same _ _ _ (λ a r f' k. (ap is_lt k.met.1, λ j. record { 0 = k.met.0 j }))))
    c.sort_by.ensures.sorted
