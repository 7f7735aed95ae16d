-- The largest cost of the nodes so far.
use Rattle.std.proofs.Common.{◌≡◌}
use Rattle.flat_graph.specs.CodeGraph.{graph_of, node_code}
use Rattle.evict_sets.specs.Longest.{longest_below}
use Rattle.flat_graph.specs.CodeGraph.{answers_of}
use Rattle.evict_sets.proofs.costs.longest.Given as goal

abbrev pub invariant-loop-node : goal.invariant-loop-node
invariant-loop-node l =
    l.greatest ≡ longest_below l.platform (graph_of l.graph) (node_code l.graph)
    (answers_of l.graph) l.node
