use Rattle.std.proofs.Common.{arith}
use Rattle.crpd_base.proofs.Bits.{none_past}
use Rattle.crpd_base.proofs.set_bits.SetBits.within_law.Goals as goal

pub returns : goal.returns
returns g c =
    rw (← c.self.view_is) (λ t h. none_past c.self.inside.words t (omega (arith, c.self.told)))
