use Rattle.std.proofs.Common.{◌≡◌, ◌++◌, ◌*◌, ◌≤◌, drop, option_map}
use Rattle.serde_json.specs.View.{items_view}
use Rattle.cert_model.specs.Kinds.{pairs_from}
use Rattle.cert_model.proofs.states.sure_pairs.Given as goal

abbrev pub invariant-loop-i : goal.invariant-loop-i
invariant-loop-i l = record {
  small : l.low ≤ 512;
  read : option_map (λ rest. l.found.items ++ rest)
      (pairs_from l.low l.limit (items_view (drop (2 * l.i) l.values.items)))
      ≡ pairs_from 0 l.limit (items_view l.values.items);
}
