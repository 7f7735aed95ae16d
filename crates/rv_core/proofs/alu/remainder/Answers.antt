use Rattle.std.proofs.Common.{refl, rules}
use Rattle.rv_core.proofs.alu.remainder.Goals as goal

pub returns-then-b-eq0 : goal.returns-then-b-eq0
returns-then-b-eq0 c = rw c.if-b-eq0.true refl

pub returns-else-b-eq0 : goal.returns-else-b-eq0
returns-else-b-eq0 c = search rules
