use Rattle.std.proofs.Common.{◌≡◌, map, take}
use Rattle.code_map.specs.Inner.Runs.{run_of}
use Rattle.code_map.proofs.index.runs_of.Given as goal

abbrev pub invariant-loop-piece : goal.invariant-loop-piece
invariant-loop-piece l = l.runs.items ≡ map run_of (take l.piece-index l.pieces)
