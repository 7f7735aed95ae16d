use Rattle.std.proofs.Common.{rules, tests}
use Rattle.preempt_machine.proofs.moves.is_within.Goals as goal

pub returns-then-range-at : goal.returns-then-range-at
returns-then-range-at c t = (c.if-range-at.true, search (rules, tests))
