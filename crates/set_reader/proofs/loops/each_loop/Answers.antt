use Rattle.std.proofs.Common.{arith}
use Rattle.std.proofs.lemmas.Grind.{common_steps}
use Rattle.text_keys.specs.Paths.{each}
use Rattle.set_reader.proofs.loops.each_loop.Goals as goal

pub returns-in_err-nth_loop : goal.returns-in_err-nth_loop
unfolding each
returns-in_err-nth_loop c = grind (arith, common_steps)

pub loop-i-preserved : goal.loop-i-preserved
unfolding each
loop-i-preserved c = grind (arith, common_steps)

pub returns : goal.returns
unfolding each
returns c = grind (arith, common_steps)
