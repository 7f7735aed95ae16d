use Rattle.persistent_blocks.proofs.NestedLoops.{nested_loops}
use Rattle.persistent_blocks.proofs.laws.nested_loops.Goals as goal

pub returns : goal.returns
returns c = nested_loops
