-- The numbers written so far.
use Rattle.cert_model.specs.Inner.Tokens.{Adds, tokens_by}
use Rattle.cert_model.specs.Writing.{whole_number}
use Rattle.cert_model.proofs.writing.set_numbers.Given as goal

abbrev pub invariant-loop-number : goal.invariant-loop-number
invariant-loop-number l = Adds l.initial.out l.out (tokens_by whole_number l.yielded)
