-- The potentials of the regions round the source so far cover their iterations.
use Rattle.flat_graph.specs.CodeGraph.{graph_of}
use Rattle.loop_regions.specs.CodeNest.{nest_of}
use Rattle.cert_check.specs.ListedPotentials.{potentials_of}
use Rattle.loop_regions.proofs.Climbs.{Holds, still_outside}
use Rattle.cert_check.proofs.Potentials.{IsPaidTurns}
use Rattle.cert_check.proofs.paid.Paid.left_pay.Given as goal

abbrev pub invariant-loop-round : goal.invariant-loop-round
invariant-loop-round l =
    Holds (nest_of l.self.nest.now)
    (IsPaidTurns (nest_of l.self.nest.now) (potentials_of l.self.part.now)) l.fn.source.0 l.round

abbrev pub decreases-loop-round : goal.decreases-loop-round
decreases-loop-round l = still_outside (graph_of l.self.graph.now) (nest_of l.self.nest.now) l.round
