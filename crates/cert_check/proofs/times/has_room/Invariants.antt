-- The parts and windows of the tasks so far.
use Rattle.cert_check.proofs.Rooms.{AreHanded}
use Rattle.cert_check.proofs.times.has_room.Given as goal

abbrev pub invariant-loop-k : goal.invariant-loop-k
invariant-loop-k l = AreHanded l.certificate l.parts l.windows l.k
