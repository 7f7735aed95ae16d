use Rattle.std.proofs.Common.{rules}
use Rattle.flat_graph.proofs.bodies.renumbered.Goals as goal

pub returns-in-To : goal.returns-in-To
returns-in-To c = search rules
