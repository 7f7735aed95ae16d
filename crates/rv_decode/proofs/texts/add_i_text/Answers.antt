use Rattle.std.proofs.Common.{arith}
use Rattle.std.proofs.lemmas.Grind.{common_steps}
use Rattle.rv_decode.proofs.texts.add_i_text.Goals as goal

pub returns : goal.returns
returns c = grind (arith, common_steps)
