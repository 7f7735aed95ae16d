use Rattle.std.proofs.Common.{arith}
use Rattle.std.proofs.lemmas.Grind.{elements}
use Rattle.flat_graph.proofs.leaders.mark_ends.Goals as goal

pub returns-in-Either-clause-marked : goal.returns-in-Either-clause-marked
returns-in-Either-clause-marked c = grind (arith, elements)
