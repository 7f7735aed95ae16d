use Rattle.std.proofs.Common.{arith, ◌∙◌, ap, sym, option_and_then}
use Rattle.serde_json.specs.View.{view}
use Rattle.cert_model.specs.Kinds.{states, states_from}
use Rattle.cert_model.proofs.Listed.{states_start, state_more, state_fault, states_all, of_states}
use Rattle.cert_model.proofs.states.states.Goals as goal

pub returns-in_default : goal.returns-in_default
unfolding states
returns-in_default c =
    ap (option_and_then (states_from c.args.sets c.args.nodes 0)) c.in_default.ensures

pub loop-value-init : goal.loop-value-init
loop-value-init c = record {
  small = omega arith;
  rest =
      states_start c.args.sets c.args.nodes c.new-found.result.items c.deref-value-items.result.now
      c.new-found.ensures.items;
}

pub returns-in_default-2 : goal.returns-in_default-2
unfolding states
returns-in_default-2 c =
    state_fault c.args.sets c.args.nodes c.loop-value.low c.loop-value.found.items
    c.deref-value-items.result.now c.loop-value.value-index c.value-item.result _
    c.loop-value-test.true c.value-item.is (sym c.in_default-2.is ∙ c.in_ok-state.ensures.is)
    c.loop-value.invariant.rest
    ∙ of_states c.args.sets c.args.nodes (view c.args.value.now) c.deref-value-items.result.now
    c.in-Some.values.now.items c.deref-value-items.ensures.value c.in-Some.ensures

pub loop-value-preserved : goal.loop-value-preserved
loop-value-preserved c = record {
  small =
      let below = rw c.in-Some-2.is at c.in_ok-state.ensures.bound in
      omega (arith, below, c.from-low.ensures, c.requires.nodes);
  rest =
      state_more c.args.sets c.args.nodes c.loop-value.low c.loop-value.found.items
      c.push.new.self.items c.deref-value-items.result.now c.loop-value.value-index
      c.from-low.result c.value-item.result c.in-Some-2.state _ c.loop-value-test.true
      c.value-item.is (sym c.in-Some-2.is ∙ c.in_ok-state.ensures.is) c.in_ok-push.ensures.items
      c.from-low.ensures c.loop-value.invariant.rest;
}

pub returns : goal.returns
unfolding states
returns c =
    states_all c.args.sets c.args.nodes c.loop-value.low c.loop-value.found.items
    c.deref-value-items.result.now c.loop-value.value-index _ c.loop-value-test.false
    c.loop-value.invariant.rest
    ∙ of_states c.args.sets c.args.nodes (view c.args.value.now) c.deref-value-items.result.now
    c.in-Some.values.now.items c.deref-value-items.ensures.value c.in-Some.ensures
