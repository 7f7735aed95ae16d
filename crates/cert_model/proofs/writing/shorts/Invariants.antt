use Rattle.std.proofs.Common.{◌∷◌, take, flat_map}
use Rattle.json.specs.Token.{key}
use Rattle.cert_model.specs.Inner.Tokens.{Adds, tokens_of}
use Rattle.cert_model.specs.Writing.{whole_number}
use Rattle.cert_model.proofs.writing.shorts.Given as goal

abbrev pub invariant-loop-name : goal.invariant-loop-name
invariant-loop-name l =
    Adds l.initial.out l.out
    (flat_map (λ m. key m.0.now ∷ tokens_of (whole_number m.1)) (take l.name-index l.members))
