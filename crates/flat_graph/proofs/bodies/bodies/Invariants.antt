use Rattle.std.proofs.Common.{◌≡◌, length}
use Rattle.code_map.specs.Words.{word_at}
use Rattle.flat_graph.specs.Inner.GraphParts.{AreNodeBodies}
use Rattle.flat_graph.specs.Inner.Ordered.{nodes_of}
use Rattle.flat_graph.proofs.bodies.bodies.Given as goal

abbrev pub invariant-loop-place : goal.invariant-loop-place
invariant-loop-place l = record {
  count : length l.bodies.items ≡ l.place;
  bodies : AreNodeBodies (word_at l.code.images) l.entry (nodes_of l.ordered) l.bodies.items;
}
