use Rattle.std.proofs.Common.{arith}
use Rattle.std.proofs.lemmas.Grind.{common_steps}
use Rattle.crpd_base.proofs.Bits.{has-minus}
use Rattle.crpd_base.proofs.set_bits.SetBits.minus.Goals as goal

pub loop-i-preserved : goal.loop-i-preserved
loop-i-preserved g c = grind (arith, common_steps)

pub returns : goal.returns
returns g c =
    rw (← c.self.view_is, ← c.other.view_is)
    (has-minus _ _ _ g.row.W (omega (arith, c.self.told)) (omega (arith, c.other.told))
    (λ k h. c.loop-i.invariant.words k (omega arith))
    (λ k h. c.loop-i.invariant.done k (omega arith))
    (λ k h. c.loop-i.invariant.others k (omega (arith, c.loop-i.auto))))
