use Rattle.std.proofs.Common.{refl}
use Rattle.run_account.proofs.run.entry.Goals as goal

pub returns : goal.returns
returns c = refl
