use Rattle.std.proofs.Common.{arith}
use Rattle.std.proofs.lemmas.Grind.{common_steps}
use Rattle.dataflow.proofs.variable.LiveDomain.transfer.Goals as goal

pub returns-in-Writes : goal.returns-in-Writes
returns-in-Writes c = grind (arith, common_steps)
