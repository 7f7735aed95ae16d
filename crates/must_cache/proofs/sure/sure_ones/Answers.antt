use Rattle.std.proofs.Common.{arith}
use Rattle.std.proofs.lemmas.Grind.{common_steps}
use Rattle.must_cache.proofs.sure.sure_ones.Goals as goal

pub loop-node-preserved : goal.loop-node-preserved
loop-node-preserved g c = grind (arith, common_steps)
