use Rattle.std.proofs.Common.{arith}
use Rattle.std.proofs.lemmas.Grind.{common_steps}
use Rattle.rv_core.proofs.registers.Regs.put.Goals as goal

pub returns-then-kept : goal.returns-then-kept
returns-then-kept c = grind (arith, common_steps)
