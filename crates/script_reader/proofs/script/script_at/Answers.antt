use Rattle.std.proofs.Common.{arith}
use Rattle.script_reader.specs.Reading.{script_at}
use Rattle.script_reader.proofs.script.script_at.Goals as goal

pub returns-in_err-script_keys : goal.returns-in_err-script_keys
unfolding script_at
returns-in_err-script_keys c = grind arith

pub returns-in_err-cycles_at : goal.returns-in_err-cycles_at
unfolding script_at
returns-in_err-cycles_at c = grind arith

pub returns-in_err-cache_at : goal.returns-in_err-cache_at
unfolding script_at
returns-in_err-cache_at c = grind arith

pub returns-in_err-jobs_at : goal.returns-in_err-jobs_at
unfolding script_at
returns-in_err-jobs_at c = grind arith

pub returns : goal.returns
unfolding script_at
returns c = grind arith
