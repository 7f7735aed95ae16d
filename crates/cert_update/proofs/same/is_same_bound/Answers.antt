use Rattle.std.proofs.Common.{◌∙◌, sym}
use Rattle.std.proofs.lemmas.Bool.{eqb-true, eq-eqb}
use Rattle.cert_update.proofs.same.is_same_bound.Goals as goal

pub returns : goal.returns
returns c = (
  λ t. sym c.bound.ensures ∙ eqb-true _ _ t ∙ c.bound-2.ensures,
  λ same. eq-eqb _ _ (c.bound.ensures ∙ same ∙ sym c.bound-2.ensures),
)
