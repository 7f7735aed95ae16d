use Rattle.std.proofs.Common.{rules}
use Rattle.crpd_report.proofs.refine.method_name.Goals as goal

pub returns-in-Point : goal.returns-in-Point
returns-in-Point c = search rules
