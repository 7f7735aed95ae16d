use Rattle.std.proofs.Common.{◌∙◌, sym, refl, eq-eqb, ne_eqb}
use Rattle.flat_graph.proofs.checks.call_error.Goals as goal

pub returns-then-is_full : goal.returns-then-is_full
returns-then-is_full c =
    rw (sym c.is_recursive.ensures ∙ c.if-is_recursive.false, eq-eqb _ _ c.if-is_full.true) refl

pub returns : goal.returns
returns c =
    rw (sym c.is_recursive.ensures ∙ c.if-is_recursive.false, ne_eqb _ _ c.if-is_full.false) refl
