-- The largest cost of the edges so far, the one to the end included.
use Rattle.std.proofs.Common.{◌≡◌, max, map, false}
use Rattle.crpd_base.specs.declared.data.NodeId.{NodeId}
use Rattle.flat_graph.specs.CodeGraph.{node_code}
use Rattle.flat_graph.specs.EdgeCost.{edge_cost}
use Rattle.evict_sets.specs.Longest.{greatest_of}
use Rattle.evict_sets.proofs.costs.node_longest.Given as goal

abbrev pub invariant-loop-next : goal.invariant-loop-next
invariant-loop-next l =
    l.greatest ≡ max
    (greatest_of (edge_cost l.platform (node_code l.graph) (λ y. false) l.id.0)
    (map (λ (n : NodeId). n.0) l.yielded)) l.initial.greatest
