use Rattle.persistent_blocks.proofs.SomePart.{a_persistent_part_exists}
use Rattle.persistent_blocks.proofs.laws.a_persistent_part_exists.Goals as goal

pub returns : goal.returns
returns c = a_persistent_part_exists
