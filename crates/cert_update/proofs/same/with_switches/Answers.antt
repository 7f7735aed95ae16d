use Rattle.std.proofs.Common.{refl}
use Rattle.cert_update.proofs.same.with_switches.Goals as goal

pub returns : goal.returns
returns c = refl
