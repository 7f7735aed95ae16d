use Rattle.rv_core.proofs.memory.+write.Given as goal

abbrev pub decreases-write : goal.decreases-write
decreases-write l = l.count
