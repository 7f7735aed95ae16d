use Rattle.std.proofs.Common.{rules}
use Rattle.flat_graph.proofs.points.steps_of.Goals as goal

pub returns : goal.returns
returns c = search rules
