use Rattle.std.proofs.Common.{arith}
use Rattle.std.proofs.lemmas.Grind.{common_steps}
use Rattle.loop_regions.proofs.nested.are_across.Goals as goal

pub returns-then-lies_across_any : goal.returns-then-lies_across_any
returns-then-lies_across_any c = grind (arith, common_steps)

pub loop-r-preserved : goal.loop-r-preserved
loop-r-preserved c = grind (arith, common_steps)
