use Rattle.std.proofs.Common.{◌<◌, sym, subst}
use Rattle.flat_graph.specs.CodeGraph.{graph_of}
use Rattle.loop_regions.specs.CodeNest.{nest_of}
use Rattle.cert_check.specs.ListedPotentials.{potentials_of}
use Rattle.loop_regions.proofs.Beside.{nested}
use Rattle.cert_check.proofs.Potentials.{IsPaidTurns}
use Rattle.loop_regions.proofs.Climbs.{Holds, holds_more, falls_up, still_outside}
use Rattle.cert_check.proofs.paid.Paid.left_pay.Goals as goal

pub loop-round-smaller : goal.loop-round-smaller
loop-round-smaller c =
    let here = subst
    (λ o. Holds (nest_of c.args.self.now.nest.now)
    (IsPaidTurns (nest_of c.args.self.now.nest.now) (potentials_of c.args.self.now.part.now))
    c.args.source.0 o) c.in-Some.is c.loop-round.invariant in
    subst (λ o. still_outside (graph_of c.args.self.now.graph.now)
    (nest_of c.args.self.now.nest.now) c.parent-round.result
    < still_outside (graph_of c.args.self.now.graph.now) (nest_of c.args.self.now.nest.now) o)
    (sym c.in-Some.is)
    (falls_up (graph_of c.args.self.now.graph.now) (nest_of c.args.self.now.nest.now)
    c.in-Some.region c.parent-round.result c.graph_law.ensures.graph
    (nested c.args.self.now.graph.now c.args.self.now.nest.now c.requires.paid.beside) here.here.0
    c.parent-round.ensures)

pub loop-round-preserved : goal.loop-round-preserved
loop-round-preserved c =
    let here = subst
    (λ o. Holds (nest_of c.args.self.now.nest.now)
    (IsPaidTurns (nest_of c.args.self.now.nest.now) (potentials_of c.args.self.now.part.now))
    c.args.source.0 o) c.in-Some.is c.loop-round.invariant in
    holds_more (nest_of c.args.self.now.nest.now)
    (IsPaidTurns (nest_of c.args.self.now.nest.now) (potentials_of c.args.self.now.part.now))
    c.args.source.0 c.in-Some.region c.parent-round.result
    c.parent-round.ensures (c.region_pays.ensures.0 c.if-not-region_pays.false) here
