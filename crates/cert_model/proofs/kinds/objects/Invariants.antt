use Rattle.std.proofs.Common.{◌≡◌, ◌++◌, drop, map, option_map}
use Rattle.serde_json.specs.Find.{as_object}
use Rattle.serde_json.specs.View.{items_view, members_view}
use Rattle.cert_model.specs.Kinds.{all_of}
use Rattle.cert_model.proofs.kinds.objects.Given as goal

abbrev pub invariant-loop-value : goal.invariant-loop-value
invariant-loop-value l =
    option_map (λ rest. map (λ t. members_view t.now.entries) l.found.items ++ rest)
    (all_of as_object (items_view (drop l.value-index l.value-items)))
    ≡ all_of as_object (items_view l.value-items)
