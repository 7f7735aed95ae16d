use Rattle.std.proofs.Common.{refl}
use Rattle.run_account.proofs.notes.reload.Goals as goal

pub returns : goal.returns
returns c = refl
