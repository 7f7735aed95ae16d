use Rattle.std.proofs.Common.{rules}
use Rattle.exec_bound.proofs.costed.Costed.too_large.Goals as goal

pub returns : goal.returns
returns c = search rules
