use Rattle.cert_update.proofs.SomeUpdate.{an_update_exists}
use Rattle.cert_update.proofs.an_update_exists.Goals as goal

pub returns : goal.returns
returns c = an_update_exists
