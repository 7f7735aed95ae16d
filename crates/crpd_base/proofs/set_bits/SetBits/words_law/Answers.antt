use Rattle.std.proofs.Common.{arith}
use Rattle.crpd_base.proofs.set_bits.SetBits.words_law.Goals as goal

pub returns : goal.returns
returns g c =
    rw (← c.self.view_is)
    (record {
      count = c.self.told;
      each = λ k h. c.loop-i.invariant k (omega (arith, c.loop-i.auto));
    })
