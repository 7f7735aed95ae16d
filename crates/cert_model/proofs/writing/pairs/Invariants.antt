use Rattle.std.proofs.Common.{take, flat_map}
use Rattle.cert_model.specs.Inner.Tokens.{Adds}
use Rattle.cert_model.proofs.Adds.{pair_tokens}
use Rattle.cert_model.proofs.writing.pairs.Given as goal

abbrev pub invariant-loop-set : goal.invariant-loop-set
invariant-loop-set l = Adds l.initial.out l.out (flat_map pair_tokens (take l.set-index l.sure))
