use Rattle.std.proofs.Common.{◌<◌, ◌≤◌, ◌-◌, ℕ, IsFalse}
use Rattle.flat_graph.specs.CodeGraph.{places_of}
use Rattle.loop_regions.specs.Inner.Heads.{is_seen_from}
use Rattle.loop_regions.proofs.holding.first_seen.Given as goal

abbrev pub invariant-loop-first : goal.invariant-loop-first
invariant-loop-first l = record {
  ordered : l.first ≤ l.found;
  below : l.found ≤ l.head;
  before : (y : ℕ) → y < l.first
      → IsFalse (is_seen_from (places_of l.graph) ((places_of l.graph).context l.head) y);
}

abbrev pub decreases-loop-first : goal.decreases-loop-first
decreases-loop-first l = l.found - l.first
