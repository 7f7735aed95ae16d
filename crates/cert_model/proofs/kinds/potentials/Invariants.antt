use Rattle.std.proofs.Common.{◌≡◌, ◌++◌, ◌^◌, drop, option_map}
use Rattle.serde_json.specs.View.{items_view}
use Rattle.cert_model.specs.Kinds.{all_of, whole}
use Rattle.cert_model.proofs.kinds.potentials.Given as goal

abbrev pub invariant-loop-value : goal.invariant-loop-value
invariant-loop-value l =
    option_map (λ rest. l.found.items ++ rest)
    (all_of (whole 0 (2 ^ 40)) (items_view (drop l.value-index l.value-items)))
    ≡ all_of (whole 0 (2 ^ 40)) (items_view l.value-items)
