use Rattle.flow_watch.proofs.Counts.{IsCounted}
use Rattle.flow_watch.proofs.loops.count_arrival.Given as goal

abbrev pub invariant-loop-i : goal.invariant-loop-i
invariant-loop-i l = IsCounted l.address l.loops l.initial.turns l.i l.turns
