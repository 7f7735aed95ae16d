-- The search continues, and what was found stays found.
use Rattle.std.proofs.Common.{◌≡◌, ℕ, true, false, slice_index_or}
use Rattle.dataflow.specs.Inner.Search.{IsInDepth, to_follow}
use Rattle.dataflow.proofs.order.DepthFirst.run.Given as goal

abbrev pub invariant-loop-node : goal.invariant-loop-node
invariant-loop-node g l = record {
  search : IsInDepth (g.G.Flow.node_count l.flow) (g.G.Flow.edge_count l.flow) l.self.seen.items
      l.self.next.items l.self.path.items l.self.left.items;
  root : slice_index_or l.self.seen.items l.root false ≡ true;
  seen : (n : ℕ) → slice_index_or l.fn.self.seen.items n false ≡ true
      → slice_index_or l.self.seen.items n false ≡ true;
}

abbrev pub decreases-loop-node : goal.decreases-loop-node
decreases-loop-node g l = to_follow l.self.next.items l.self.path.items
