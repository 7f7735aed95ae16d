use Rattle.std.proofs.Common.{sym, ◌∙◌}
use Rattle.rv_core.proofs.Clearing.{none_between}
use Rattle.rv_core.proofs.memory.page_between.Goals as goal

pub returns-in_err-number-clause-none : goal.returns-in_err-number-clause-none
returns-in_err-number-clause-none c =
    rw c.from_residual.ensures
    (none_between c.args.first c.args.last c.args.pages.now.entries
    (sym (c.range.ensures.between tt) ∙ c.in_err-number.ensures.steps.0))
