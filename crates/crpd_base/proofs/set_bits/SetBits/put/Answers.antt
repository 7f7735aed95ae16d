use Rattle.std.proofs.Common.{arith}
use Rattle.crpd_base.proofs.set_bits.SetBits.put.Goals as goal

pub returns-then-present : goal.returns-then-present
returns-then-present g c = grind arith

pub returns-else-present : goal.returns-else-present
returns-else-present g c = grind arith
