use Rattle.std.proofs.Common.{◌≡◌, ℕ, length, slice_get, Some, take}
use Rattle.flat_graph.specs.Inner.Points.{points_of}
use Rattle.flat_graph.specs.declared.points.FoundPoint.{FoundPoint}
use Rattle.flat_graph.proofs.reach.placed.Given as goal

abbrev pub invariant-loop-place : goal.invariant-loop-place
invariant-loop-place l = record {
  count : length l.placed.items ≡ l.place;
  plain : points_of l.placed.items ≡ take l.place l.points;
  places : (k : ℕ) (p : FoundPoint) → slice_get l.placed.items k ≡ Some p → p.place ≡ k;
}
