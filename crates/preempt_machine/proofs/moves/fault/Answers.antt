use Rattle.std.proofs.Common.{refl}
use Rattle.preempt_machine.proofs.moves.fault.Goals as goal

pub returns-clause-time : goal.returns-clause-time
returns-clause-time c = refl
