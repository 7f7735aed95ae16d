use Rattle.std.proofs.Common.{rules}
use Rattle.preempt_machine.proofs.machine.Machine.owner_place.Goals as goal

pub returns : goal.returns
returns c = search rules
