use Rattle.std.proofs.Common.{rules}
use Rattle.crpd_report.proofs.check.add_verdict.Goals as goal

pub returns-in-Yes : goal.returns-in-Yes
returns-in-Yes c = search rules

pub returns-in-No : goal.returns-in-No
returns-in-No c = search rules
