use Rattle.std.proofs.Common.{codes, map, [], ◌∷◌}
use Rattle.json.specs.Token.{key, string}
use Rattle.serde_json.specs.Data.{array}
use Rattle.serde_json.specs.View.{items_of}
use Rattle.cert_model.specs.Inner.Tokens.{tokens_of}
use Rattle.cert_model.specs.Writing.{numbers_data, state_data, task_data, task_members}
use Rattle.cert_model.proofs.Adds.{wrote, then, moved, closes}
use Rattle.cert_model.proofs.writing.task.Goals as goal

pub returns : goal.returns
unfolding task_members
returns c =
    closes c.end_object.result c.args.out.now (tokens_of (task_data c.args.task.now))
    (λ end.
    (then (wrote c.in_ok-begin_object.ensures)
    (then c.in_ok-number_at.ensures
    (then c.in_ok-set_at.ensures
    (then (moved (λ ns. key (codes "loops") ∷ tokens_of (numbers_data ns)) c.as_slice.ensures
    c.in_ok-numbers_at.ensures)
    (then (moved (λ s. key (codes "method") ∷ string s ∷ []) c.method_name.ensures
    c.in_ok-text_at.ensures)
    (then (moved (λ s. key (codes "name") ∷ string s ∷ []) c.as_str.ensures
    c.in_ok-text_at-2.ensures)
    (then (moved (λ ns. key (codes "potentials") ∷ tokens_of (numbers_data ns)) c.as_slice-2.ensures
    c.in_ok-numbers_at-2.ensures)
    (then c.in_ok-number_at-2.ensures
    (then (moved (λ ss. key (codes "states") ∷ tokens_of (array (items_of (map state_data ss))))
    c.as_slice-3.ensures c.in_ok-states_at.ensures)
    (then c.in_ok-set_at-2.ensures
    (then c.in_ok-number_at-3.ensures
    end))))))))))))
    c.end_object.ensures
