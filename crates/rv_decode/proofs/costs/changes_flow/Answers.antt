use Rattle.std.proofs.Common.{rules}
use Rattle.rv_decode.proofs.costs.changes_flow.Goals as goal

pub returns-in-Jal : goal.returns-in-Jal
returns-in-Jal c = search rules
