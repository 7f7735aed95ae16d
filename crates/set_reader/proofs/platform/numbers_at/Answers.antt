use Rattle.std.proofs.Common.{arith}
use Rattle.std.proofs.lemmas.Grind.{common_steps}
use Rattle.text_keys.specs.Paths.{each}
use Rattle.set_reader.proofs.platform.numbers_at.Goals as goal

pub returns-in_err-found : goal.returns-in_err-found
unfolding each
returns-in_err-found c = grind (arith, common_steps)

pub loop-i-preserved : goal.loop-i-preserved
unfolding each
loop-i-preserved c = record { count = grind (arith, common_steps); read = grind (arith, common_steps) }

pub returns : goal.returns
unfolding each
returns c = grind (arith, common_steps)
