use Rattle.std.proofs.Common.{arith}
use Rattle.crpd_io.proofs.outside.raise.Goals as goal

pub returns-clause-exact : goal.returns-clause-exact
returns-clause-exact c = omega (arith, c.saturating_add.ensures)

pub returns-clause-rose : goal.returns-clause-rose
returns-clause-rose c = omega (arith, c.saturating_add.ensures)
