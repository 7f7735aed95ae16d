use Rattle.std.proofs.Common.{rules, tests}
use Rattle.exec_bound.proofs.settling.is_large.Goals as goal

pub returns : goal.returns
returns c = search (rules, tests)
