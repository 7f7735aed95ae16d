use Rattle.std.proofs.Common.{◌∷◌}
use Rattle.json.specs.Token.{key}
use Rattle.cert_model.specs.Inner.Tokens.{tokens_of}
use Rattle.cert_model.specs.Writing.{whole_number}
use Rattle.cert_model.proofs.Adds.{all_of}
use Rattle.cert_model.proofs.writing.shorts.Goals as goal

pub returns : goal.returns
returns c =
    all_of (λ m. key m.0.now ∷ tokens_of (whole_number m.1)) c.args.members.now
    c.loop-name.name-index c.loop-name-test.false c.loop-name.invariant
