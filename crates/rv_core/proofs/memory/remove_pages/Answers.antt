use Rattle.std.proofs.Common.{ap, ◌∙◌, filter}
use Rattle.rv_core.specs.Inner.Pages.{Pages, is_not_between}
use Rattle.rv_core.proofs.Clearing.{outside_removed}
use Rattle.rv_core.proofs.memory.remove_pages.Goals as goal

pub loop-number-preserved : goal.loop-number-preserved
loop-number-preserved c =
    ap (λ (pages : Pages). filter (λ page. is_not_between c.args.first c.args.last page.0) pages)
    c.remove.ensures.entries
    ∙ outside_removed c.loop-number.pages.entries c.args.first c.args.last c.in-Some.number
    c.in-Some.ensures.found.0
    ∙ c.loop-number.invariant
