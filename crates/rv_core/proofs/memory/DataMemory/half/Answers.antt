use Rattle.rv_core.proofs.memory.DataMemory.half.Goals as goal

pub returns-clause-value : goal.returns-clause-value
returns-clause-value c = cc
