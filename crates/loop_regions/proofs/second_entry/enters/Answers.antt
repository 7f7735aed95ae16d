use Rattle.std.proofs.Common.{arith}
use Rattle.std.proofs.lemmas.Grind.{common_steps}
use Rattle.loop_regions.proofs.second_entry.enters.Goals as goal

pub returns-then-not-holds : goal.returns-then-not-holds
returns-then-not-holds c = grind (arith, common_steps)

pub loop-r-preserved : goal.loop-r-preserved
loop-r-preserved c = grind (arith, common_steps)
