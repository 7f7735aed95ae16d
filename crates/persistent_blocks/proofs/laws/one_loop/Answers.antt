use Rattle.persistent_blocks.proofs.OneLoop.{one_loop}
use Rattle.persistent_blocks.proofs.laws.one_loop.Goals as goal

pub returns : goal.returns
returns c = one_loop
