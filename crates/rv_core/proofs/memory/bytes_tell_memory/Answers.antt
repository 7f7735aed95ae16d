use Rattle.rv_core.proofs.Memories.{same_bytes}
use Rattle.rv_core.proofs.memory.bytes_tell_memory.Goals as goal

pub returns : goal.returns
returns c = λ memory other h k same. same_bytes 0 memory other h k same
