use Rattle.crpd_io.proofs.memory.MemFiles.new.Goals as goal

pub returns-clause-most : goal.returns-clause-most
returns-clause-most c = c.with_most.ensures.most
