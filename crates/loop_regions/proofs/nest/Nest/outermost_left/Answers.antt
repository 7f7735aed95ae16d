use Rattle.std.proofs.Common.{◌<◌, ◌∙◌, sym, subst}
use Rattle.flat_graph.specs.CodeGraph.{graph_of}
use Rattle.loop_regions.specs.CodeNest.{nest_of}
use Rattle.loop_regions.proofs.Beside.{nested}
use Rattle.loop_regions.proofs.Climbs.{Climbs, climbs, falls_up, still_outside}
use Rattle.loop_regions.proofs.nest.Nest.outermost_left.Goals as goal

pub loop-round-smaller : goal.loop-round-smaller
loop-round-smaller c =
    let here = subst
    (λ o. Climbs (nest_of c.args.self.now) c.args.source.0 c.args.target.0 c.loop-round.left o)
    c.in-Some.is c.loop-round.invariant in
    subst (λ o. still_outside (graph_of c.args.graph.now) (nest_of c.args.self.now)
    c.parent-round.result < still_outside (graph_of c.args.graph.now) (nest_of c.args.self.now) o)
    (sym c.in-Some.is)
    (falls_up (graph_of c.args.graph.now) (nest_of c.args.self.now) c.in-Some.region
    c.parent-round.result c.graph_law.ensures.graph
    (nested c.args.graph.now c.args.self.now c.requires.nest) here.here.0 c.parent-round.ensures)

pub loop-round-preserved : goal.loop-round-preserved
loop-round-preserved c =
    let here = subst
    (λ o. Climbs (nest_of c.args.self.now) c.args.source.0 c.args.target.0 c.loop-round.left o)
    c.in-Some.is c.loop-round.invariant in
    climbs (graph_of c.args.graph.now) (nest_of c.args.self.now) c.args.source.0 c.args.target.0
    c.in-Some.region c.loop-round.left c.parent-round.result
    (nested c.args.graph.now c.args.self.now c.requires.nest)
    (sym c.holds.ensures ∙ c.if-holds.false) c.parent-round.ensures here
