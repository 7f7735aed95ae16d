use Rattle.std.proofs.Common.{rules}
use Rattle.preempt_machine.proofs.jobs.start_registers.Goals as goal

pub returns : goal.returns
returns c = search rules
