-- What is known about the tasks so far.
use Rattle.std.proofs.Common.{◌≡◌, ℕ, ◌<◌, [], length, get_or}
use Rattle.delay_count.specs.Gamma.{part_at}
use Rattle.loop_regions.specs.CodeNest.{CodeNest}
use Rattle.flat_graph.specs.CodeGraph.{graph_at}
use Rattle.loop_regions.specs.TaskGraphs.{task_graph}
use Rattle.sensitivity.specs.Accepted.{HasCacheBlocks}
use Rattle.sensitivity.specs.Inner.Found.{TellsHits}
use Rattle.sensitivity.proofs.analysis.all_known.Given as goal

abbrev pub invariant-loop-k : goal.invariant-loop-k
invariant-loop-k l = record {
  parts : length l.parts.items ≡ l.k;
  sets : (j : ℕ) → j < l.k → (nest : CodeNest)
      → HasCacheBlocks l.set.platform (task_graph (graph_at l.graphs j) nest)
      (part_at l.parts.items j);
  lists : length l.hits.items ≡ l.k;
  hits : (j : ℕ) → j < l.k → (nest : CodeNest)
      → TellsHits l.set.platform (task_graph (graph_at l.graphs j) nest) (get_or l.hits.items j []);
}
