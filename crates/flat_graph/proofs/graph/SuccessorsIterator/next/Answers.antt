use Rattle.std.proofs.Common.{rules}
use Rattle.flat_graph.proofs.graph.SuccessorsIterator.next.Goals as goal

pub returns-in-Either-clause-steps : goal.returns-in-Either-clause-steps
returns-in-Either-clause-steps c = search rules
