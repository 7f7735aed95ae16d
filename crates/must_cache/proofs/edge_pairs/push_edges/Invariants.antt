-- The edges to the successors so far are added.
use Rattle.std.proofs.Common.{◌≡◌, ◌++◌, map}
use Rattle.crpd_base.specs.declared.data.NodeId.{NodeId}
use Rattle.must_cache.specs.Inner.EdgeLists.{edges_from}
use Rattle.must_cache.proofs.edge_pairs.push_edges.Given as goal

abbrev pub invariant-loop-next : goal.invariant-loop-next
invariant-loop-next l =
    l.edges.items ≡ l.initial.edges.items
    ++ edges_from l.source (map (λ (n : NodeId). n.0) l.yielded)
