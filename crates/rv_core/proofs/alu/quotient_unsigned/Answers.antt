use Rattle.std.proofs.Common.{refl}
use Rattle.rv_core.proofs.alu.quotient_unsigned.Goals as goal

pub returns-then-b-eq0 : goal.returns-then-b-eq0
returns-then-b-eq0 c = rw c.if-b-eq0.true refl
