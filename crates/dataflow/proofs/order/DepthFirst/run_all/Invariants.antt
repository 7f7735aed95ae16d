-- The first roots are found.
use Rattle.std.proofs.Common.{◌≡◌, ◌<◌, ℕ, [], true, false, slice_index_or}
use Rattle.dataflow.specs.Inner.Search.{IsInDepth, root_at}
use Rattle.dataflow.proofs.order.DepthFirst.run_all.Given as goal

abbrev pub invariant-loop-k : goal.invariant-loop-k
invariant-loop-k g l = record {
  search : IsInDepth (g.G.Flow.node_count l.flow) (g.G.Flow.edge_count l.flow) l.self.seen.items
      l.self.next.items l.self.path.items l.self.left.items;
  path : l.self.path.items ≡ [];
  found : (k : ℕ) → k < l.k
      → slice_index_or l.self.seen.items (root_at l.from_last (g.G.Flow.node_count l.flow) k)
      false ≡ true;
}
