use Rattle.std.proofs.Common.{arith}
use Rattle.cert_model.specs.Inner.Tasks.{fields_at}
use Rattle.cert_model.proofs.task.fields_at.Goals as goal

pub returns-in_err-method : goal.returns-in_err-method
unfolding fields_at
returns-in_err-method c = grind arith

pub returns-in_err-window : goal.returns-in_err-window
unfolding fields_at
returns-in_err-window c = grind arith
