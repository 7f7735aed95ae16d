use Rattle.std.proofs.Common.{◌∙◌, sym, ap, rules, slice_index_or, [], nat_cmp}
use Rattle.std.specs.Ordering.{ordering_then}
use Rattle.flat_graph.specs.Inner.NumberingOrder.{list_cmp}
use Rattle.flat_graph.proofs.Order.{list_same}
use Rattle.flat_graph.proofs.points.compare.Goals as goal

pub returns-then-point-other : goal.returns-then-point-other
returns-then-point-other c =
    let calls = slice_index_or c.args.lists.now c.args.point.now.context [] in
    c.cmp.ensures
    ∙ ap (λ o. ordering_then o (nat_cmp c.args.point.now.address c.args.other.now.address))
    (sym (list_same calls) ∙ ap (λ k. list_cmp calls (slice_index_or c.args.lists.now k []))
    c.if-point-other.true)

pub returns : goal.returns
returns c = search rules
