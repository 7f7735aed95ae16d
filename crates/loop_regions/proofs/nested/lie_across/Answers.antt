use Rattle.std.proofs.Common.{not, ap, sym, ◌∙◌}
use Rattle.loop_regions.proofs.nested.lie_across.Goals as goal

pub returns-then-not-includes : goal.returns-then-not-includes
returns-then-not-includes c =
    rw (sym c.includes.ensures ∙ c.if-not-includes.true)
    (ap not c.includes-then-not-includes.ensures)
