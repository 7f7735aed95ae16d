use Rattle.std.proofs.Common.{rules, tests}
use Rattle.preempt_machine.proofs.moves.outlasts.Goals as goal

pub returns : goal.returns
returns c = search (rules, tests)
