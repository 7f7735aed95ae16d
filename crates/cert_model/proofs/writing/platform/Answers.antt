use Rattle.std.proofs.Common.{codes, [], ◌∷◌}
use Rattle.json.specs.Token.{key, string}
use Rattle.serde_json.specs.Data.{object}
use Rattle.cert_model.specs.Inner.Tokens.{tokens_of}
use Rattle.cert_model.specs.Writing.{platform_members}
use Rattle.cert_model.proofs.Adds.{wrote, then, moved, closes}
use Rattle.cert_model.proofs.writing.platform.Goals as goal

pub returns : goal.returns
unfolding platform_members
returns c =
    closes c.end_object.result c.args.out.now
    (tokens_of (object (platform_members c.args.platform.now)))
    (λ end.
    (then (wrote c.in_ok-begin_object.ensures)
    (then c.in_ok-shorts.ensures
    (then (moved (λ s. key (codes "switching") ∷ string s ∷ []) c.switching_name.ensures
    c.in_ok-text_at.ensures)
    (then c.in_ok-short_at.ensures
    end)))))
    c.end_object.ensures
