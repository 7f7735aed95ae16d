use Rattle.cert_check.proofs.SomeVerdict.{a_verdict_exists}
use Rattle.cert_check.proofs.a_verdict_exists.Goals as goal

pub returns : goal.returns
returns c = a_verdict_exists
