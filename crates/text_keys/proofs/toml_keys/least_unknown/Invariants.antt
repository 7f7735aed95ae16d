use Rattle.std.proofs.Common.{◌≡◌, map, option_map, None}
use Rattle.toml.specs.View.{members_view, table_view}
use Rattle.text_keys.specs.TomlKeys.{least_unknown}
use Rattle.text_keys.proofs.toml_keys.least_unknown.Given as goal

abbrev pub invariant-loop-key : goal.invariant-loop-key
invariant-loop-key l =
    least_unknown (map (λ k. k.now) l.keys) (option_map (λ k. k.now) l.least)
    (members_view l.key-iterator)
    ≡ least_unknown (map (λ k. k.now) l.keys) None (table_view l.table)
