use Rattle.code_map.proofs.Sweep.{IsSwept}
use Rattle.code_map.proofs.joined.join.Given as goal

abbrev pub invariant-loop-piece : goal.invariant-loop-piece
invariant-loop-piece l = IsSwept l.pieces l.piece-index l.parts.items l.last l.conflict
