use Rattle.std.proofs.Common.{◌≡◌, arith}
use Rattle.loop_regions.specs.CodeNest.{nest_of}
use Rattle.loop_regions.proofs.Potential.{item_law}
use Rattle.exec_bound.specs.Costs.{greatest_bound}
use Rattle.exec_bound.proofs.GreatestBound.{greatest_is}
use Rattle.exec_bound.proofs.Values.{item_small}
use Rattle.exec_bound.proofs.costed.Costed.arrival.Goals as goal

pub overflow_add-result : goal.overflow_add-result
overflow_add-result c =
    let n = nest_of c.args.self.now.nest.now in
    let i = item_law n c.args.next.0 in
    let here = c.item_value-after.ensures i.0 i.1 in
    let small = item_small n c.args.values.now.nodes.items c.args.values.now.loops.items
    c.requires.potentials c.args.next.0 i.0 i.1 in
    let is : greatest_bound ≡ 1099511627776 = greatest_is in
    omega (arith, here, small, is, c.edge_price-price.ensures.small)

pub returns-clause-small : goal.returns-clause-small
returns-clause-small c =
    let n = nest_of c.args.self.now.nest.now in
    let i = item_law n c.args.next.0 in
    let here = c.item_value-after.ensures i.0 i.1 in
    let small = item_small n c.args.values.now.nodes.items c.args.values.now.loops.items
    c.requires.potentials c.args.next.0 i.0 i.1 in
    omega (arith, here, small, c.edge_price-price.ensures.small)
