use Rattle.loop_regions.specs.CodeNest.{nest_of}
use Rattle.cert_check.specs.ListedPotentials.{potentials_of}
use Rattle.cert_check.proofs.Potentials.{bound_test}
use Rattle.cert_check.proofs.paid.Paid.bound_holds.Goals as goal

pub returns : goal.returns
returns c =
    bound_test (nest_of c.args.self.now.nest.now) (potentials_of c.args.self.now.part.now)
    c.args.self.now.graph.now.first c.first.result.0 c.at_item.result
    c.args.self.now.part.now.part.bound c.from.result c.at_most.result
    c.first.ensures c.from.ensures c.at_item.ensures.is c.at_most.ensures
