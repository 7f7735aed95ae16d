use Rattle.std.proofs.Common.{◌-◌, ◌≤◌, ◌+◌, length}
use Rattle.code_map.specs.Words.{word_at}
use Rattle.flat_graph.specs.Inner.Reach.{AreFollowed}
use Rattle.flat_graph.proofs.reach.Found.follow_all.Given as goal

abbrev pub invariant-loop-place : goal.invariant-loop-place
invariant-loop-place l = record {
  followed : AreFollowed (word_at l.code.images) l.entry l.place l.self;
  few : length l.self.points.keys ≤ l.most + 2;
}

abbrev pub decreases-loop-place : goal.decreases-loop-place
decreases-loop-place l = l.most - l.place
