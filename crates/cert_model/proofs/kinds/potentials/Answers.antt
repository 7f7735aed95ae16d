use Rattle.std.proofs.Common.{arith, ◌^◌, ℕ, List, length, Option, ◌∙◌, ap, nat_le, option_and_then}
use Rattle.std.proofs.lemmas.Bool.{le-leb, lt-leb}
use Rattle.serde_json.specs.Data.{Data}
use Rattle.text_keys.specs.Named.{only}
use Rattle.cert_model.specs.Kinds.{all_of, potentials, whole}
use Rattle.cert_model.proofs.Listed.{items_start, item_more, item_fault, items_all, of_list}
use Rattle.cert_model.proofs.Listed.{kept, left_out}
use Rattle.cert_model.proofs.kinds.potentials.Goals as goal

abbrev time : Data → Option ℕ
time = whole 0 (2 ^ 40)

abbrev few : ℕ → Option (List ℕ) → Option (List ℕ)
few most o = only (λ ns. nat_le (length ns) most) o

pub returns-in_default : goal.returns-in_default
unfolding potentials
returns-in_default c =
    ap (λ o. few c.args.most (option_and_then (all_of time) o)) c.in_default.ensures

pub loop-value-init : goal.loop-value-init
loop-value-init c = items_start time _ _ c.new-found.ensures.items

pub returns-in_default-whole : goal.returns-in_default-whole
unfolding potentials
returns-in_default-whole c =
    ap (few c.args.most)
    (item_fault time _ _ _ _ _ c.loop-value-test.true c.value-item.is
    c.in_default-whole.ensures.is c.loop-value.invariant
    ∙ of_list time _ _ _ c.deref-value-items.ensures.value c.in-Some.ensures)

pub loop-value-preserved : goal.loop-value-preserved
loop-value-preserved c =
    item_more time _ _ _ _ _ _ _ c.loop-value-test.true c.value-item.is c.in-Some-whole.ensures.is
    c.in_ok-push.ensures.items c.loop-value.invariant

pub returns-then-few : goal.returns-then-few
unfolding potentials
returns-then-few c =
    kept _ _ _ (le-leb _ _ (omega (arith, c.len.ensures)))
    (items_all time _ _ _ _ c.loop-value-test.false c.loop-value.invariant
    ∙ of_list time _ _ _ c.deref-value-items.ensures.value c.in-Some.ensures)

pub returns-else-few : goal.returns-else-few
unfolding potentials
returns-else-few c =
    left_out _ _ _ (lt-leb _ _ (omega (arith, c.len.ensures)))
    (items_all time _ _ _ _ c.loop-value-test.false c.loop-value.invariant
    ∙ of_list time _ _ _ c.deref-value-items.ensures.value c.in-Some.ensures)
