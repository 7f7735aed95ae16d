use Rattle.std.proofs.Common.{arith}
use Rattle.crpd_base.proofs.Bits.{removed}
use Rattle.crpd_base.proofs.set_bits.SetBits.remove.Goals as goal

pub returns : goal.returns
returns g c =
    rw (← c.self.view_is) (λ t. removed c.self.inside.words c.args.s t (omega (arith, c.self.told)))
