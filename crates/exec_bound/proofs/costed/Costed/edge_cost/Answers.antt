use Rattle.std.proofs.Common.{rules}
use Rattle.exec_bound.proofs.costed.Costed.edge_cost.Goals as goal

pub returns-clause-cost : goal.returns-clause-cost
returns-clause-cost c = search rules
