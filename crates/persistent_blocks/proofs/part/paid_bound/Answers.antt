use Rattle.std.proofs.Common.{◌≡◌, ℕ, ◌+◌, ◌*◌, List, length, sym, subst, arith}
use Rattle.evict_sets.specs.Listing.{counted}
use Rattle.exec_bound.specs.BoundErrors.{IsBoundError}
use Rattle.exec_bound.specs.Costs.{greatest_bound, priced_costs}
use Rattle.exec_bound.specs.declared.error.BoundError.{BoundError}
use Rattle.flat_graph.specs.CodeGraph.{CodeGraph, graph_of}
use Rattle.loop_regions.specs.CodeNest.{nest_of}
use Rattle.loop_regions.specs.TaskGraphs.{task_graph}
use Rattle.loop_regions.proofs.Beside.{nested}
use Rattle.persistent_blocks.specs.Inner.Brought.{region_events}
use Rattle.persistent_blocks.specs.Inner.Paid.{ArePrices}
use Rattle.persistent_blocks.specs.PersistentPart.{IsPrepaidBound}
use Rattle.persistent_blocks.proofs.PartFound.{found, too_large}
use Rattle.persistent_blocks.proofs.part.paid_bound.Goals as goal

pub overflow_add-bound : goal.overflow_add-bound
unfolding greatest_bound
overflow_add-bound c = omega (arith, c.in-Ok.ensures.within, c.price.ensures.small)

pub returns-in-Ok : goal.returns-in-Ok
returns-in-Ok c =
    let p = c.args.geometry.now.platform in
    let b = c.args.brings.now in
    let g = b.graph.now in
    let e = region_events p g b.nest.now b.heads.items b.blocks.items in
    let table = c.args.table.now.sets.items in
    let count : length table ≡ 2 * (graph_of g).size =
    subst (λ (x : CodeGraph). length table ≡ 2 * (graph_of x).size) c.requires.graph
    c.args.table.now.count in
    let prices : ArePrices p.miss table c.deref.result.now =
    subst (λ (l : List ℕ). ArePrices p.miss table l) (sym c.deref.ensures.value)
    c.in_ok-prices.ensures.are in
    subst (λ k. IsPrepaidBound p (task_graph g b.nest.now) e (c.in-Ok.found.cycles + k))
    (sym c.price.ensures.is)
    (found p g b.nest.now e c.requires.platform.sets.0 c.requires.platform.sets.1
    c.requires.events table c.start_payments-start.result c.args.hits.now c.requires.edges
    c.start_payments-start.ensures (nested g b.nest.now c.requires.nest) c.deref.result.now prices
    count c.graph_law.ensures.successors c.requires.hits c.in-Ok.found.cycles
    c.in-Ok.found.nodes c.in-Ok.found.loops c.in-Ok.ensures)

pub returns-in-Err-TooLarge : goal.returns-in-Err-TooLarge
returns-in-Err-TooLarge c =
    let p = c.args.geometry.now.platform in
    let b = c.args.brings.now in
    let g = b.graph.now in
    let e = region_events p g b.nest.now b.heads.items b.blocks.items in
    let table = c.args.table.now.sets.items in
    let count : length table ≡ 2 * (graph_of g).size =
    subst (λ (x : CodeGraph). length table ≡ 2 * (graph_of x).size) c.requires.graph
    c.args.table.now.count in
    let prices : ArePrices p.miss table c.deref.result.now =
    subst (λ (l : List ℕ). ArePrices p.miss table l) (sym c.deref.ensures.value)
    c.in_ok-prices.ensures.are in
    let large = subst (λ (x : BoundError). IsBoundError g (nest_of b.nest.now)
    (priced_costs p g (counted c.args.hits.now) c.deref.result.now) x) c.in-Err-TooLarge.field-0-is
    c.in-Err-TooLarge.ensures in
    too_large p g b.nest.now e c.requires.platform.sets.0 c.requires.platform.sets.1
    c.requires.events table c.start_payments-start.result c.args.hits.now c.requires.edges
    c.start_payments-start.ensures (nested g b.nest.now c.requires.nest) c.deref.result.now prices
    count c.graph_law.ensures.successors c.requires.hits large.1
