use Rattle.std.proofs.Common.{◌∙◌, ℕ, List, [], ◌∷◌, sym, decimal}
use Rattle.std.proofs.lemmas.Iterator.Consumers.{YieldsList-end, YieldsList-from_first}
use Rattle.std.proofs.lemmas.List.{map-id}
use Rattle.json.specs.Token.{number}
use Rattle.crpd_base.specs.Sets.{numbers_below}
use Rattle.cert_model.specs.Writing.{set_data, whole_number}
use Rattle.cert_model.specs.Inner.Tokens.{tokens_by}
use Rattle.cert_model.proofs.Adds.{none, wrote, moved, one_more, list}
use Rattle.cert_model.proofs.writing.set_numbers.Goals as goal

pub loop-number-init : goal.loop-number-init
loop-number-init c = none c.begin_array.new.self

pub loop-number-preserved : goal.loop-number-preserved
loop-number-preserved c =
    one_more whole_number c.loop-number.yielded c.in-Some.number c.loop-number.invariant
    (moved (λ n. number (decimal n) ∷ []) c.from.ensures (wrote c.in_ok-u64.ensures))

pub returns : goal.returns
unfolding set_data
returns c =
    let all = YieldsList-end
    (YieldsList-from_first (λ (s : ℕ). s) (λ (left : List ℕ). left)
    (numbers_below c.args.set.now 512) cc)
    c.loop-number.yielded _ c.loop-number.yielded_by _ _ c.in-None.is c.next.ensures.steps in
    list c.end_array.result whole_number (numbers_below c.args.set.now 512)
    (wrote c.in_ok-begin_array.ensures)
    (moved (tokens_by whole_number) (sym (map-id c.loop-number.yielded) ∙ all.0)
    c.loop-number.invariant) c.end_array.ensures
