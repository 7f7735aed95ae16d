use Rattle.std.proofs.Common.{◌∙◌}
use Rattle.cert_check.specs.ListedPotentials.{potentials_of}
use Rattle.cert_check.specs.Inner.JudgedNodes.{counted}
use Rattle.loop_regions.specs.Potentials.{costs_of}
use Rattle.cert_check.proofs.Potentials.{end_test}
use Rattle.cert_check.proofs.paid.Paid.end_pays.Goals as goal

pub returns : goal.returns
returns c =
    let costs = costs_of c.args.self.now.platform.now c.args.self.now.graph.now
    (counted c.args.self.now.hits.now) in
    end_test (costs.answers c.args.node.0) (costs.end c.args.node.0) c.from.result c.at_node.result
    ((potentials_of c.args.self.now.part.now).node c.args.node.0) c.at_most.result
    (c.from.ensures ∙ c.end_cost-cost.ensures) c.at_node.ensures.is c.at_most.ensures
