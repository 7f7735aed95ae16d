use Rattle.std.proofs.Common.{◌≡◌, take}
use Rattle.code_map.proofs.symbols.are_same.Given as goal

abbrev pub invariant-loop-i : goal.invariant-loop-i
invariant-loop-i l = take l.i l.symbols ≡ take l.i l.others
