use Rattle.std.proofs.Common.{map}
use Rattle.serde_json.specs.Data.{object, array}
use Rattle.serde_json.specs.View.{items_of}
use Rattle.cert_model.specs.Inner.Tokens.{tokens_of}
use Rattle.cert_model.specs.Writing.{task_data, certificate_members}
use Rattle.cert_model.proofs.Adds.{wrote, then, moved, closes}
use Rattle.cert_model.proofs.writing.certificate.Goals as goal

pub returns : goal.returns
unfolding certificate_members
returns c =
    closes c.end_object.result c.args.out.now
    (tokens_of (object (certificate_members c.args.certificate.now)))
    (λ end.
    (then (wrote c.in_ok-begin_object.ensures)
    (then (wrote c.in_ok-key.ensures)
    (then c.in_ok-platform.ensures
    (then (wrote c.in_ok-key-2.ensures)
    (then (moved (λ ts. tokens_of (array (items_of (map task_data ts)))) c.as_slice.ensures
    c.in_ok-tasks.ensures)
    (then c.in_ok-number_at.ensures
    end)))))))
    c.end_object.ensures
