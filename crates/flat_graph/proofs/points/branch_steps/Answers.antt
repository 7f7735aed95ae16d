use Rattle.std.proofs.Common.{rules}
use Rattle.flat_graph.proofs.points.branch_steps.Goals as goal

pub returns-else-is_next : goal.returns-else-is_next
returns-else-is_next c = search rules
