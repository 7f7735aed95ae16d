-- The costs of the tasks so far.
use Rattle.std.proofs.Common.{◌≡◌, ℕ, ◌<◌, ◌≤◌, slice_index}
use Rattle.flat_graph.specs.CodeGraph.{graph_of, node_code, graph_at}
use Rattle.flat_graph.specs.CodeGraph.{answers_of}
use Rattle.evict_sets.specs.Longest.{longest}
use Rattle.evict_sets.proofs.costs.write_longest.Given as goal

abbrev pub invariant-loop-k : goal.invariant-loop-k
invariant-loop-k l = record {
  each : (j : ℕ) → j < l.k
      → slice_index l.longest j
      ≡ longest l.set.platform (graph_of (graph_at l.graphs j)) (node_code (graph_at l.graphs j))
      (answers_of (graph_at l.graphs j));
  range : (j : ℕ) → j < l.k → (1 ≤ slice_index l.longest j) × (slice_index l.longest j ≤ 262144);
}
