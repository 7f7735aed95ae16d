use Rattle.std.proofs.Common.{◌<◌, ◌≤◌, ◌-◌, ℕ, IsFalse}
use Rattle.flat_graph.specs.CodeGraph.{graph_of, places_of}
use Rattle.loop_regions.specs.Inner.Heads.{is_seen_from}
use Rattle.loop_regions.proofs.holding.past_seen.Given as goal

abbrev pub invariant-loop-found : goal.invariant-loop-found
invariant-loop-found l = record {
  above : l.head < l.found;
  ordered : l.found ≤ l.past;
  within : l.past ≤ (graph_of l.graph).size;
  after : (y : ℕ) → l.past ≤ y → y < (graph_of l.graph).size
      → IsFalse (is_seen_from (places_of l.graph) ((places_of l.graph).context l.head) y);
}

abbrev pub decreases-loop-found : goal.decreases-loop-found
decreases-loop-found l = l.past - l.found
