use Rattle.std.proofs.Common.{arith, rules}
use Rattle.std.proofs.lemmas.Grind.{common_steps}
use Rattle.script_reader.specs.Reading.{jobs_at}
use Rattle.script_reader.proofs.jobs.jobs_at.Goals as goal

pub returns-in_err-tables : goal.returns-in_err-tables
unfolding jobs_at
returns-in_err-tables c = search rules

pub returns-then-len-gt-MOST_JOBS : goal.returns-then-len-gt-MOST_JOBS
unfolding jobs_at
returns-then-len-gt-MOST_JOBS c = grind (arith, common_steps)

pub returns : goal.returns
unfolding jobs_at
returns c = grind (arith, common_steps)
