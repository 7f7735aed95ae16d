use Rattle.std.proofs.Common.{arith}
use Rattle.set_reader.specs.Reading.{set_at, set_keys}
use Rattle.set_reader.proofs.set.set_at.Goals as goal

pub returns-in_err-all_known : goal.returns-in_err-all_known
unfolding set_at set_keys
returns-in_err-all_known c = grind arith

pub returns-in_err-platform : goal.returns-in_err-platform
unfolding set_at set_keys
returns-in_err-platform c = grind arith

pub returns-in_err-platform-2 : goal.returns-in_err-platform-2
unfolding set_at set_keys
returns-in_err-platform-2 c = grind arith

pub returns-in_err-tasks : goal.returns-in_err-tasks
unfolding set_at set_keys
returns-in_err-tasks c = grind arith

pub returns : goal.returns
unfolding set_at set_keys
returns c = grind arith
