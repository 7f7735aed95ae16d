use Rattle.std.proofs.Common.{eq-eqb, refl}
use Rattle.code_map.proofs.runs.takes_word.Goals as goal

pub returns-then-address-eq0 : goal.returns-then-address-eq0
returns-then-address-eq0 c = rw (eq-eqb _ _ c.if-address-eq0.true) refl
