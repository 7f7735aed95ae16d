use Rattle.std.proofs.Common.{sym, ◌∙◌}
use Rattle.std.proofs.lemmas.Bool.{eq-eqb, eqb-true}
use Rattle.std.proofs.lemmas.Nat.Bits.{shr_and_one}
use Rattle.crpd_base.proofs.set_bits.SetBits.has.Goals as goal

pub returns : goal.returns
returns g c =
    rw (← c.self.view_is)
    (λ t. sym (shr_and_one _ _) ∙ eqb-true _ _ t, λ e. eq-eqb _ _ (shr_and_one _ _ ∙ e))
