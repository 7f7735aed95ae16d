use Rattle.std.proofs.Common.{arith}
use Rattle.flat_graph.specs.CodeGraph.{graph_of}
use Rattle.loop_regions.specs.Inner.FoundRegions.{nest_in}
use Rattle.loop_regions.proofs.Searching.{falls_more}
use Rattle.loop_regions.proofs.ranks.all_fall.Goals as goal

pub loop-u-preserved : goal.loop-u-preserved
loop-u-preserved c =
    falls_more (graph_of c.args.graph.now) (nest_in c.args.regions.now) c.args.ranks.now c.loop-u.u
    (c.falls_along.ensures c.if-not-falls_along.false) c.loop-u.invariant

pub returns : goal.returns
returns c t u v f = c.loop-u.invariant u v (let lt = f.0.0 in omega arith) f
