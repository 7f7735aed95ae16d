use Rattle.std.proofs.Common.{rules}
use Rattle.evict_sets.proofs.costs.edge_cost.Goals as goal

pub returns-clause-cost : goal.returns-clause-cost
returns-clause-cost c = search rules
