use Rattle.std.proofs.Common.{arith, ◌∙◌, sym, ap, option_map}
use Rattle.serde_json.specs.View.{items_view}
use Rattle.std.proofs.Math.ListN.{drop_of_length-le}
use Rattle.cert_model.specs.Kinds.{words_of}
use Rattle.cert_model.proofs.Rising.{items_from, rose_none, rose_more, rose_fault, rose_all}
use Rattle.cert_model.proofs.sets.rising_set.Goals as goal

pub loop-value-init : goal.loop-value-init
loop-value-init c = record {
  small = omega arith;
  rose = rose_none c.args.limit c.new-set.result (items_view c.args.values.now) c.new-set.ensures;
}

pub returns-in_err-number : goal.returns-in_err-number
returns-in_err-number c =
    c.from_residual.ensures ∙ sym (ap (option_map words_of)
    (rose_fault _ _ _ _ _ _ _
    (items_from c.args.values.now c.loop-value.value-index c.value-item.result
    c.loop-value-test.true c.value-item.is) c.loop-value.invariant.rose c.in_err-number.ensures.is))

pub insert-requires : goal.insert-requires
insert-requires c = omega (arith, c.in_ok-number.ensures.bound, c.requires)

pub loop-value-preserved : goal.loop-value-preserved
loop-value-preserved c = record {
  small = omega (arith, c.in_ok-number.ensures.bound);
  rose =
      rose_more _ _ _ _ _ _ _ _ _
      (items_from c.args.values.now c.loop-value.value-index c.value-item.result
      c.loop-value-test.true c.value-item.is) c.loop-value.invariant.rose c.in_ok-number.ensures.is
      c.insert.ensures;
}

pub returns : goal.returns
returns c =
    rose_all _ _ _ _ _ (ap items_view (drop_of_length-le c.args.values.now c.loop-value-test.false))
    c.loop-value.invariant.rose c.words_law.ensures
