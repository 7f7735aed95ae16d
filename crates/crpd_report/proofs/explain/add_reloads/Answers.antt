use Rattle.std.proofs.Common.{arith}
use Rattle.std.proofs.lemmas.Grind.{common_steps}
use Rattle.crpd_report.proofs.explain.add_reloads.Goals as goal

pub loop-reload-init : goal.loop-reload-init
loop-reload-init c = grind (arith, common_steps)

pub loop-reload-preserved : goal.loop-reload-preserved
loop-reload-preserved c = grind (arith, common_steps)
