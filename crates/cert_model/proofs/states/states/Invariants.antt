use Rattle.std.proofs.Common.{◌≡◌, ◌++◌, ◌≤◌, drop, option_map}
use Rattle.serde_json.specs.View.{items_view}
use Rattle.cert_model.specs.Kinds.{states_from}
use Rattle.cert_model.proofs.states.states.Given as goal

abbrev pub invariant-loop-value : goal.invariant-loop-value
invariant-loop-value l = record {
  small : l.low ≤ 16384;
  rest : option_map (λ rest. l.found.items ++ rest)
      (states_from l.sets l.nodes l.low (items_view (drop l.value-index l.value-items)))
      ≡ states_from l.sets l.nodes 0 (items_view l.value-items);
}
