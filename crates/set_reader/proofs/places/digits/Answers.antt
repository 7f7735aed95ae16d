use Rattle.std.proofs.Common.{arith}
use Rattle.std.proofs.lemmas.Grind.{common_steps}
use Rattle.set_reader.specs.Kinds.{digits}
use Rattle.set_reader.proofs.places.digits.Goals as goal

pub loop-c-preserved : goal.loop-c-preserved
unfolding digits
loop-c-preserved c = record { small = omega arith; rest = grind (arith, common_steps) }

pub returns-then-next-ge-LIMIT : goal.returns-then-next-ge-LIMIT
unfolding digits
returns-then-next-ge-LIMIT c = grind (arith, common_steps)
