use Rattle.std.proofs.Common.{ne_eqb}
use Rattle.flat_graph.proofs.checks.is_recursive.Goals as goal

pub returns-else-is_entry : goal.returns-else-is_entry
returns-else-is_entry c = rw (ne_eqb _ _ c.if-is_entry.false) c.is_under_way.ensures
