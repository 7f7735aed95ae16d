use Rattle.std.proofs.Common.{refl}
use Rattle.run_account.proofs.trails.Trails.touch.Goals as goal

pub returns-clause-sets : goal.returns-clause-sets
returns-clause-sets c = refl
