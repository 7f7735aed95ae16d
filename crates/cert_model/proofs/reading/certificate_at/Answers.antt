use Rattle.std.proofs.Common.{arith}
use Rattle.cert_model.specs.Reading.{certificate_at}
use Rattle.cert_model.proofs.Platforms.{one_order}
use Rattle.cert_model.proofs.reading.certificate_at.Goals as goal

pub returns-in_err-version : goal.returns-in_err-version
unfolding certificate_at
returns-in_err-version c = grind (arith, one_order)

pub returns-in_err-platform : goal.returns-in_err-platform
unfolding certificate_at
returns-in_err-platform c = grind (arith, one_order)

pub returns-in_err-platform-2 : goal.returns-in_err-platform-2
unfolding certificate_at
returns-in_err-platform-2 c = grind (arith, one_order)

pub returns-in_err-tasks_at : goal.returns-in_err-tasks_at
unfolding certificate_at
returns-in_err-tasks_at c = grind (arith, one_order)

pub returns : goal.returns
unfolding certificate_at
returns c = grind (arith, one_order)
