use Rattle.std.proofs.Common.{rules}
use Rattle.crpd_input.proofs.cause.Cause.row.Goals as goal

pub returns-clause-number : goal.returns-clause-number
returns-clause-number c = search rules

pub returns-clause-name : goal.returns-clause-name
returns-clause-name c = search rules
