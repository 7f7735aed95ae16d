use Rattle.std.proofs.Common.{◌≡◌, ◌<◌, ℕ, length, slice_get, Some}
use Rattle.flat_graph.specs.declared.points.FoundPoint.{FoundPoint}
use Rattle.flat_graph.proofs.bodies.ranks.Given as goal

abbrev pub invariant-loop-rank : goal.invariant-loop-rank
invariant-loop-rank l = record {
  count : length l.ranks.items ≡ length l.ordered.points.items;
  ranks : (k : ℕ) (p : FoundPoint) → k < l.rank → slice_get l.ordered.points.items k ≡ Some p
      → slice_get l.ranks.items p.place ≡ Some k;
}
