use Rattle.std.proofs.Common.{arith}
use Rattle.std.proofs.lemmas.Grind.{same_number_lists}
use Rattle.crpd_base.proofs.Bits.{same_below}
use Rattle.crpd_base.proofs.set_bits.SetBits.same_law.Goals as goal

pub loop-i-preserved : goal.loop-i-preserved
loop-i-preserved g c =
    same_below _ _ g.row.W c.loop-i.i (omega arith) (omega arith) (omega arith) c.loop-i.invariant

pub returns : goal.returns
returns g c =
    rw (← c.self.view_is, ← c.other.view_is)
    (λ same. same_number_lists _ _ (omega (arith, c.self.told, c.other.told))
    (λ k h. c.loop-i.invariant same k (omega (arith, c.self.told, c.loop-i.auto))))
