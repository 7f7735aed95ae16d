use Rattle.crpd_io.proofs.memory.MemFilesFiles.read.Goals as goal

pub invariant_of-self : goal.invariant_of-self
invariant_of-self c = record { goes_on = c.args.self.now.goes_on }

pub returns-in-Err-clause-fails : goal.returns-in-Err-clause-fails
returns-in-Err-clause-fails c = rw c.as_slice.ensures.value at c.in-Err.ensures.fails

pub returns-clause-fails : goal.returns-clause-fails
returns-clause-fails c = rw c.as_slice.ensures.value at c.in-Ok.ensures.fails
