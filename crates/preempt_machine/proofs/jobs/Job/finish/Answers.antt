use Rattle.std.proofs.Common.{rules}
use Rattle.preempt_machine.proofs.jobs.Job.finish.Goals as goal

pub returns-in-Goto-clause-ok : goal.returns-in-Goto-clause-ok
returns-in-Goto-clause-ok c = rw c.in-Goto.is c.arrive.ensures.ok

pub returns-in-Answer-clause-ok : goal.returns-in-Answer-clause-ok
returns-in-Answer-clause-ok c = search rules
