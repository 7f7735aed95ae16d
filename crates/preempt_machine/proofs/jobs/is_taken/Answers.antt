use Rattle.std.proofs.Common.{rules}
use Rattle.preempt_machine.proofs.jobs.is_taken.Goals as goal

pub returns-in-Goto : goal.returns-in-Goto
returns-in-Goto c = search rules

pub returns-in-Answer : goal.returns-in-Answer
returns-in-Answer c = search rules
