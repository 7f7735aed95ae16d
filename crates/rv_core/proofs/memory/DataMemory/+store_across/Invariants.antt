use Rattle.rv_core.proofs.memory.DataMemory.+store_across.Given as goal

abbrev pub decreases-store_across : goal.decreases-store_across
decreases-store_across l = l.count
