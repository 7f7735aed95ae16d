use Rattle.std.proofs.Common.{arith}
use Rattle.rv_core.proofs.Memories.{put_from}
use Rattle.rv_core.proofs.memory.put_keeps_memory.Goals as goal

pub returns : goal.returns
returns c = λ memory a b h below small. put_from 0 memory a b h (omega arith) below small
