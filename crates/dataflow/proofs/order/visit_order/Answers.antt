use Rattle.std.proofs.Common.{◌++◌, List, ℕ, ap, subst, sym, ◌∙◌}
use Rattle.dataflow.specs.Inner.Search.{IsVisitOrder}
use Rattle.dataflow.proofs.Depth.{both_orders}
use Rattle.dataflow.proofs.order.visit_order.Goals as goal

pub returns : goal.returns
returns g c =
    subst (IsVisitOrder (g.G.Flow.node_count c.args.flow.now))
    (sym (c.in_ok-extend_from_slice.ensures.items
    ∙ ap (λ (l : List ℕ). c.in_ok-order.order.items ++ l) c.deref.ensures.value))
    (both_orders _ _ _ c.in_ok-order.ensures c.in_ok-second.ensures)
