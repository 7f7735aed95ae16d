use Rattle.persistent_blocks.proofs.OnePart.{one_persistent_part}
use Rattle.persistent_blocks.proofs.laws.one_persistent_part.Goals as goal

pub returns : goal.returns
returns c = one_persistent_part
