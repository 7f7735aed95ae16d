use Rattle.std.proofs.Common.{◌≡◌, length, filter}
use Rattle.rv_core.specs.Inner.Pages.{is_not_between}
use Rattle.rv_core.proofs.memory.remove_pages.Given as goal

abbrev pub invariant-loop-number : goal.invariant-loop-number
invariant-loop-number l =
    filter (λ page. is_not_between l.first l.last page.0) l.pages.entries
    ≡ filter (λ page. is_not_between l.first l.last page.0) l.initial.pages.entries

abbrev pub decreases-loop-number : goal.decreases-loop-number
decreases-loop-number l = length l.pages.entries
