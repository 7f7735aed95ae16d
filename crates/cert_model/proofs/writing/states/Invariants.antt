use Rattle.std.proofs.Common.{take}
use Rattle.cert_model.specs.Inner.Tokens.{Adds, tokens_by}
use Rattle.cert_model.specs.Writing.{state_data}
use Rattle.cert_model.proofs.writing.states.Given as goal

abbrev pub invariant-loop-node : goal.invariant-loop-node
invariant-loop-node l = Adds l.initial.out l.out (tokens_by state_data (take l.node-index l.list))
