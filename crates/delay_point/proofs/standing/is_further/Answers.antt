use Rattle.std.proofs.Common.{rules, tests}
use Rattle.delay_point.proofs.standing.is_further.Goals as goal

pub returns-then-not-has : goal.returns-then-not-has
returns-then-not-has c = search (rules, tests)

pub returns-else-not-has : goal.returns-else-not-has
returns-else-not-has c = search (rules, tests)
