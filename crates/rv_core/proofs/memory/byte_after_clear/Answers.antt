use Rattle.rv_core.proofs.Memories as lemmas
use Rattle.rv_core.proofs.memory.byte_after_clear.Goals as goal

pub returns : goal.returns
returns c = λ memory a length d. lemmas.byte_after_clear memory a length d
