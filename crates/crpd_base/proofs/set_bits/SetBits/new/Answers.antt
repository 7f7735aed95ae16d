use Rattle.std.proofs.Common.{arith}
use Rattle.std.proofs.lemmas.Grind.{common_steps}
use Rattle.crpd_base.proofs.set_bits.SetBits.new.Goals as goal

pub returns : goal.returns
returns g c = grind (arith, common_steps)
