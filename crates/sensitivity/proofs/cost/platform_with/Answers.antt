use Rattle.std.proofs.Common.{refl}
use Rattle.sensitivity.proofs.cost.platform_with.Goals as goal

pub returns-in-Switch : goal.returns-in-Switch
returns-in-Switch c = rw c.in-Switch.is refl
