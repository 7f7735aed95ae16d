use Rattle.std.proofs.Common.{◌≡◌, drop, map}
use Rattle.text_keys.specs.TomlKeys.{is_listed}
use Rattle.text_keys.proofs.toml_keys.is_listed.Given as goal

abbrev pub invariant-loop-k : goal.invariant-loop-k
invariant-loop-k l =
    is_listed l.key (map (λ k. k.now) l.keys)
    ≡ is_listed l.key (map (λ k. k.now) (drop l.k-index l.keys))
