use Rattle.std.proofs.Common.{refl}
use Rattle.set_reader.proofs.task.is_after_period.Goals as goal

pub returns : goal.returns
returns c = refl
