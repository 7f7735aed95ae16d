use Rattle.std.proofs.Common.{refl}
use Rattle.dataflow.proofs.edges.AgainstFlow.edge.Goals as goal

pub returns-clause-ends : goal.returns-clause-ends
returns-clause-ends g c = rw c.edge-source.ensures.ends refl
