use Rattle.std.proofs.Common.{rules}
use Rattle.preempt_machine.proofs.jobs.Job.arrive.Goals as goal

pub returns-clause-ok : goal.returns-clause-ok
returns-clause-ok c = search rules

pub returns-clause-turns : goal.returns-clause-turns
returns-clause-turns c = search rules

pub returns-clause-err : goal.returns-clause-err
returns-clause-err c = search rules

pub returns-clause-only : goal.returns-clause-only
returns-clause-only c = search rules
