use Rattle.std.proofs.Common.{◌≡◌, ◌++◌, drop, map, option_map}
use Rattle.toml.specs.Data.{as_table}
use Rattle.toml.specs.View.{items_view, table_view}
use Rattle.text_keys.specs.TomlKeys.{all_of}
use Rattle.text_keys.proofs.toml_kinds.tables.Given as goal

abbrev pub invariant-loop-value : goal.invariant-loop-value
invariant-loop-value l =
    option_map (λ rest. map (λ t. table_view t.now) l.found.items ++ rest)
    (all_of as_table (items_view (drop l.value-index l.value-items)))
    ≡ all_of as_table (items_view l.value-items)
