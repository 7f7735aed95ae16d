-- All edges are done except those of the waiting nodes and of the one to which the walk continues.
use Rattle.std.proofs.Common.{◌≡◌, ◌<◌, ◌≤◌, ℕ, Some}
use Rattle.icache.specs.Cache.{held}
use Rattle.must_cache.specs.Events.{events}
use Rattle.flat_graph.specs.CodeGraph.{graph_of, places_of}
use Rattle.icache.specs.Accesses.{accesses}
use Rattle.must_cache.specs.Inner.FirstWalks.{HasWalkSearch, with_next, still_to_do, held_in}
use Rattle.must_cache.proofs.first_walks.FirstWalks.walk_on.Given as goal

abbrev pub invariant-loop-next : goal.invariant-loop-next
invariant-loop-next g l = record {
  under_way : HasWalkSearch (graph_of l.graph)
      (events (accesses l.geometry.platform (places_of l.graph).address)
      (g.B.Brings.brings l.brings) (g.B.Brings.at_start l.brings))
      l.self.met.items l.self.states.items l.self.hits.items l.self.apart.items
      (with_next (held_in l.self.todo.items) l.next (λ n. held l.state));
  next : (v : ℕ) → l.next ≡ Some v → v < (graph_of l.graph).size;
  falls : still_to_do l.self.met.items (held_in l.self.todo.items)
      ≤ still_to_do l.initial.self.met.items (held_in l.initial.self.todo.items);
}

abbrev pub decreases-loop-next : goal.decreases-loop-next
decreases-loop-next g l = still_to_do l.self.met.items (with_next (held_in l.self.todo.items) l.next (λ n. held l.state))
