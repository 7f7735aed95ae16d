use Rattle.std.proofs.Common.{ap, sym, ◌∙◌, ⊎_elim}
use Rattle.rv_decode.proofs.Forms.{sources_by, sources_are}
use Rattle.rv_decode.proofs.Ins.reads.Goals as goal

pub returns-in-R : goal.returns-in-R
returns-in-R c = ap sources_by c.in-R.ensures ∙ sources_are _

pub returns-in-R-2 : goal.returns-in-R-2
returns-in-R-2 c = ap sources_by c.in-R.ensures ∙ sources_are _

pub returns-in-R-3 : goal.returns-in-R-3
returns-in-R-3 c = ap sources_by c.in-R.ensures ∙ sources_are _

pub returns-in-Shift : goal.returns-in-Shift
returns-in-Shift c = ap sources_by c.in-Shift.ensures ∙ sources_are _

pub returns-in-Shift-2 : goal.returns-in-Shift-2
returns-in-Shift-2 c = ap sources_by c.in-Shift.ensures ∙ sources_are _

pub returns-in-Shift-3 : goal.returns-in-Shift-3
returns-in-Shift-3 c = ap sources_by c.in-Shift.ensures ∙ sources_are _

pub returns-in-U : goal.returns-in-U
returns-in-U c = ⊎_elim
    (λ u. ap sources_by (sym u.2 ∙ c.operands.ensures) ∙ sources_are _)
    (⊎_elim (λ j. ap sources_by (sym j.2 ∙ c.operands.ensures) ∙ sources_are _)
    (λ p. ap sources_by (sym p.3 ∙ c.operands.ensures) ∙ sources_are _))
    c.in-U.is
