use Rattle.std.proofs.Common.{◌≡◌, length}
use Rattle.flat_graph.specs.Inner.Leaders.{AreMarked}
use Rattle.flat_graph.proofs.leaders.all_marks.Given as goal

abbrev pub invariant-loop-body : goal.invariant-loop-body
invariant-loop-body l = record {
  count : length l.marks.items ≡ length l.bodies;
  marked : AreMarked l.bodies l.first l.body-index l.marks.items;
}
