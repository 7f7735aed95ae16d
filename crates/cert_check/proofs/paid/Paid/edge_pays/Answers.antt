use Rattle.std.proofs.Common.{refl}
use Rattle.flat_graph.specs.CodeGraph.{graph_of}
use Rattle.loop_regions.specs.CodeNest.{nest_of}
use Rattle.loop_regions.proofs.Beside.{nested}
use Rattle.cert_check.specs.ListedPotentials.{potentials_of}
use Rattle.cert_check.specs.Inner.JudgedNodes.{counted}
use Rattle.loop_regions.specs.Potentials.{costs_of}
use Rattle.cert_check.proofs.Potentials.{paid_back, paid_inside, paid_exit}
use Rattle.cert_check.proofs.paid.Paid.edge_pays.Goals as goal

pub returns-in-Back : goal.returns-in-Back
returns-in-Back c = (
  (λ t. paid_back (nest_of c.args.self.now.nest.now)
      (costs_of c.args.self.now.platform.now c.args.self.now.graph.now
      (counted c.args.self.now.hits.now)) (potentials_of c.args.self.now.part.now) c.args.source.0
      c.args.target.0
      c.in-Back.ensures (c.source_pays.ensures.0 c.if-not-source_pays.false)
      (c.left_pay.ensures.0 c.if-not-left_pay.false)),
  (λ E. refl),
)

pub returns-in-Inside : goal.returns-in-Inside
returns-in-Inside c = (
  (λ t. paid_inside (nest_of c.args.self.now.nest.now)
      (costs_of c.args.self.now.platform.now c.args.self.now.graph.now
      (counted c.args.self.now.hits.now)) (potentials_of c.args.self.now.part.now) c.args.source.0
      c.args.target.0
      c.in-Inside.ensures.1 (c.source_pays.ensures.0 c.if-not-source_pays.false)
      (c.left_pay.ensures.0 c.if-not-left_pay.false) (c.inside_pays.ensures.0 t)),
  (λ E. c.inside_pays.ensures.1
      (λ i is. E.inside i c.in-Inside.ensures.0 c.in-Inside.ensures.1 is)),
)

pub returns-in-Exit : goal.returns-in-Exit
returns-in-Exit c = (
  (λ t. paid_exit (nest_of c.args.self.now.nest.now)
      (costs_of c.args.self.now.platform.now c.args.self.now.graph.now
      (counted c.args.self.now.hits.now)) (potentials_of c.args.self.now.part.now) c.args.source.0
      c.args.target.0
      (graph_of c.args.self.now.graph.now) c.in-Exit.region c.graph_law.ensures.graph
      (nested c.args.self.now.graph.now c.args.self.now.nest.now c.requires.paid.beside)
      c.in-Exit.ensures.1 (c.source_pays.ensures.0 c.if-not-source_pays.false)
      (c.left_pay.ensures.0 c.if-not-left_pay.false) (c.exit_pays.ensures.0 t)),
  (λ E. c.exit_pays.ensures.1
      (λ i is. E.exit c.in-Exit.region i c.in-Exit.ensures.0 c.in-Exit.ensures.1 is)),
)
