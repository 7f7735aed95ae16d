-- The forward edges to the successors so far were followed.
use Rattle.std.proofs.Common.{◌≡◌, ◌∷◌, ◌≤◌, ℕ, length, All}
use Rattle.crpd_base.specs.declared.data.NodeId.{NodeId}
use Rattle.flat_graph.specs.CodeGraph.{graph_of}
use Rattle.loop_regions.specs.Inner.FoundRegions.{nest_in}
use Rattle.loop_regions.specs.Inner.ForwardPaths.{IsSearch, IsFollowed, to_search}
use Rattle.loop_regions.proofs.cycles.Search.follow.Given as goal

abbrev pub invariant-loop-next : goal.invariant-loop-next
invariant-loop-next l = record {
  nodes : length l.self.seen.items ≡ (graph_of l.graph).size;
  search : (y : ℕ)
      → IsSearch (graph_of l.graph) (nest_in l.regions) y l.initial.self.seen.items
      (l.u ∷ l.initial.self.waiting.items)
      → IsSearch (graph_of l.graph) (nest_in l.regions) y l.self.seen.items
      (l.u ∷ l.self.waiting.items);
  falls : to_search l.self.seen.items l.self.waiting.items
      ≤ to_search l.initial.self.seen.items l.initial.self.waiting.items;
  followed : All
      (λ (next : NodeId).
      IsFollowed (graph_of l.graph) (nest_in l.regions) l.self.seen.items l.u next.0) l.yielded;
}
