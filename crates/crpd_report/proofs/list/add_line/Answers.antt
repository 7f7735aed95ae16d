use Rattle.std.proofs.Common.{rules}
use Rattle.crpd_report.proofs.list.add_line.Goals as goal

pub returns-in_default : goal.returns-in_default
returns-in_default c = search rules

pub returns-in-Ok : goal.returns-in-Ok
returns-in-Ok c = search rules

pub returns : goal.returns
returns c = search rules
