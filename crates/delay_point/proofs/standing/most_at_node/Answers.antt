use Rattle.std.proofs.Common.{arith}
use Rattle.std.proofs.lemmas.Grind.{common_steps}
use Rattle.delay_point.proofs.standing.most_at_node.Goals as goal

pub loop-sets-preserved : goal.loop-sets-preserved
loop-sets-preserved c = grind (arith, common_steps)
