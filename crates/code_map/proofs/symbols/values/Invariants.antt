use Rattle.std.proofs.Common.{◌≡◌, ℕ, List, drop}
use Rattle.code_map.specs.Values.{value_of}
use Rattle.code_map.proofs.Valued.{at_name}
use Rattle.code_map.proofs.symbols.values.Given as goal

abbrev pub invariant-loop-i : goal.invariant-loop-i
invariant-loop-i l =
    (name : List ℕ) → at_name l.values name ≡ value_of (drop l.i l.symbols) name
