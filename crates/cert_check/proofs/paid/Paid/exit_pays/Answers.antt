use Rattle.std.proofs.Common.{◌*◌}
use Rattle.loop_regions.specs.CodeNest.{nest_of}
use Rattle.cert_check.specs.ListedPotentials.{potentials_of}
use Rattle.cert_check.proofs.Potentials.{item_test}
use Rattle.cert_check.proofs.paid.Paid.exit_pays.Goals as goal

pub returns : goal.returns
returns c =
    item_test (nest_of c.args.self.now.nest.now) (potentials_of c.args.self.now.part.now)
    c.args.target.0 c.turns.result c.at_item.result c.at_region.result
    ((nest_of c.args.self.now.nest.now).bound
    c.args.region * (potentials_of c.args.self.now.part.now).node
    ((nest_of c.args.self.now.nest.now).head c.args.region))
    ((potentials_of c.args.self.now.part.now).loop c.args.region) c.at_most.result
    c.turns.ensures.is c.at_region.ensures.is c.at_item.ensures.is c.at_most.ensures
