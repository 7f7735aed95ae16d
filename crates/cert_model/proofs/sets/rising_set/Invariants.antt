use Rattle.std.proofs.Common.{◌≤◌, drop}
use Rattle.serde_json.specs.View.{items_view}
use Rattle.cert_model.specs.Kinds.{rising}
use Rattle.cert_model.proofs.Rising.{Rose}
use Rattle.cert_model.proofs.sets.rising_set.Given as goal

abbrev pub invariant-loop-value : goal.invariant-loop-value
invariant-loop-value l = record {
  small : l.low ≤ 512;
  rose : Rose l.limit l.low l.set (items_view (drop l.value-index l.values))
      (rising 0 l.limit (items_view l.values));
}
