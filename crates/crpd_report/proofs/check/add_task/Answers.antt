use Rattle.std.proofs.Common.{arith}
use Rattle.std.proofs.lemmas.Grind.{common_steps}
use Rattle.crpd_report.proofs.check.add_task.Goals as goal

pub returns : goal.returns
returns c = grind (arith, common_steps)
