use Rattle.std.proofs.Common.{arith}
use Rattle.flat_graph.specs.CodeGraph.{graph_of}
use Rattle.loop_regions.proofs.Turns.{next_below}
use Rattle.loop_regions.proofs.ranks.count.Goals as goal

pub add_edge-requires : goal.add_edge-requires
add_edge-requires c =
    let g = graph_of c.args.graph.now in
    let lt = next_below g.size (g.next c.args.u) (cc) c.successors-next-items.ensures.nodes
    c.loop-next.yielded _ c.loop-next.yielded_by _ _ c.in-Some.next c.in-Some.is
    c.next.ensures.steps in
    omega (arith, lt, c.loop-next.invariant, c.requires.all)
