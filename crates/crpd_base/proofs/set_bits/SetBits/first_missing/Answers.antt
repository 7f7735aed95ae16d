use Rattle.std.proofs.Common.{arith}
use Rattle.crpd_base.proofs.Bits.{none_missing, lowest_missing}
use Rattle.crpd_base.proofs.set_bits.SetBits.first_missing.Goals as goal

pub returns-then-missing-ne0 : goal.returns-then-missing-ne0
returns-then-missing-ne0 g c =
    rw (← c.self.view_is, ← c.other.view_is)
    (lowest_missing c.self.inside.words c.other.inside.words g.row.W c.loop-i.i (omega arith)
    (omega arith) (omega arith) c.loop-i.invariant (omega arith))

pub loop-i-preserved : goal.loop-i-preserved
loop-i-preserved g c =
    none_missing _ _ c.loop-i.i (omega arith) c.if-missing-ne0.false c.loop-i.invariant

pub returns : goal.returns
returns g c =
    rw (← c.self.view_is, ← c.other.view_is)
    (λ t lt there. c.loop-i.invariant t (omega (arith, c.loop-i.auto)) there)
