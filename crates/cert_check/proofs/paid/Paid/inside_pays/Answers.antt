use Rattle.loop_regions.specs.CodeNest.{nest_of}
use Rattle.cert_check.specs.ListedPotentials.{potentials_of}
use Rattle.cert_check.specs.Inner.JudgedNodes.{counted}
use Rattle.loop_regions.specs.Potentials.{costs_of}
use Rattle.cert_check.proofs.Potentials.{item_test}
use Rattle.cert_check.proofs.paid.Paid.inside_pays.Goals as goal

pub returns : goal.returns
returns c =
    item_test (nest_of c.args.self.now.nest.now) (potentials_of c.args.self.now.part.now)
    c.args.target.0 c.edge_cost.result c.at_item.result c.at_node.result
    ((costs_of c.args.self.now.platform.now c.args.self.now.graph.now
    (counted c.args.self.now.hits.now)).edge c.args.source.0 c.args.target.0)
    ((potentials_of c.args.self.now.part.now).node c.args.source.0) c.at_most.result
    c.edge_cost.ensures.is c.at_node.ensures.is c.at_item.ensures.is c.at_most.ensures
