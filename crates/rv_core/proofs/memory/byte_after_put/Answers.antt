use Rattle.rv_core.proofs.Memories.{byte_put}
use Rattle.rv_core.proofs.memory.byte_after_put.Goals as goal

pub returns : goal.returns
returns c = λ memory a b d h. byte_put 0 memory a b d h
