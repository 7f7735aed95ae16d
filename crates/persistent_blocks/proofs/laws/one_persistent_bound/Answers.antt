use Rattle.persistent_blocks.proofs.OnePart.{one_persistent_bound}
use Rattle.persistent_blocks.proofs.laws.one_persistent_bound.Goals as goal

pub returns : goal.returns
returns c = one_persistent_bound
