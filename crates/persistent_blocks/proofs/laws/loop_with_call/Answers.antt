use Rattle.persistent_blocks.proofs.LoopWithCall.{loop_with_call}
use Rattle.persistent_blocks.proofs.laws.loop_with_call.Goals as goal

pub returns : goal.returns
returns c = loop_with_call
