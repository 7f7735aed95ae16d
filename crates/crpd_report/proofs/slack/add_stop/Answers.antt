use Rattle.std.proofs.Common.{arith}
use Rattle.std.proofs.lemmas.Grind.{common_steps}
use Rattle.crpd_report.proofs.slack.add_stop.Goals as goal

pub returns-in-Bound : goal.returns-in-Bound
returns-in-Bound c = grind (arith, common_steps)
