use Rattle.std.proofs.Common.{arith}
use Rattle.std.proofs.lemmas.Grind.{common_steps}
use Rattle.crpd_base.proofs.numbers.ceil_div.Goals as goal

pub returns-else-whole-b : goal.returns-else-whole-b
returns-else-whole-b c = grind (arith, common_steps)
