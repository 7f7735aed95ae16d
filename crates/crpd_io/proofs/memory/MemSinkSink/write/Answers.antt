use Rattle.std.proofs.Common.{refl, inl}
use Rattle.crpd_io.proofs.memory.MemSinkSink.write.Goals as goal

pub invariant_of-self : goal.invariant_of-self
invariant_of-self c = record {
  goes_on = c.args.self.now.goes_on;
  reserved = c.args.self.now.reserved;
  within = c.args.self.now.within;
}

pub returns-in_err-count_call-clause-fails : goal.returns-in_err-count_call-clause-fails
returns-in_err-count_call-clause-fails c = λ err.
    inl (rw c.as_slice.ensures.value at (c.in_err-count_call.ensures.fails.0 refl))

pub returns-in_err-count_call-clause-listed : goal.returns-in_err-count_call-clause-listed
returns-in_err-count_call-clause-listed c = λ listed. c.from_residual.ensures.0

pub returns-in_err-count_call-clause-full : goal.returns-in_err-count_call-clause-full
returns-in_err-count_call-clause-full c = λ full. c.from_residual.ensures.0
