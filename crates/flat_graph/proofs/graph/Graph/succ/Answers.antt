use Rattle.std.proofs.Common.{arith}
use Rattle.std.proofs.lemmas.Grind.{common_steps}
use Rattle.flat_graph.proofs.Kept.{kept_within}
use Rattle.flat_graph.proofs.graph.Graph.succ.Goals as goal

pub index-requires : goal.index-requires
index-requires c =
    kept_within c.self.inside.contexts c.self.inside.nodes c.self.inside.first c.args.self.now
    c.self.view_is c.args.id.0 c.requires.node

pub returns-in-Either-eq0 : goal.returns-in-Either-eq0
returns-in-Either-eq0 c = grind (arith, common_steps)
