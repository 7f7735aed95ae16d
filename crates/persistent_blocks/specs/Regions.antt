-- Persistent blocks: what a region keeps once it is loaded, and what the edge that enters the region
-- loads in advance.
use Rattle.std.specs.Prelude.{◌≡◌, ◌↔◌, ℕ, ◌<◌, Some, IsTrue, IsFalse}
use Rattle.flat_graph.specs.Graph.{Graph, Edge}
use Rattle.icache.specs.Accesses.{Accesses}
use Rattle.loop_regions.specs.Nest.{Nest}
use Rattle.must_cache.specs.Events.{Events, accesses_in}

-- a pair of a cache set and a block is persistent in a region: the region holds a node with this own
-- set, and each such node has this block
pub record IsPersistent (a : Accesses) (n : Nest) (r s m : ℕ) : Type 0 where
  pub region : r < n.size
  pub node : ℕ
  pub holds : IsTrue (n.holds r node)
  pub own : a.set node ≡ s
  pub each : (y : ℕ) → IsTrue (n.holds r y) → a.set y ≡ s → a.block y ≡ m

-- the edge enters a region in which the pair is persistent
pub record EdgeLoads (a : Accesses) (n : Nest) (u v s m : ℕ) : Type 0 where
  pub region : ℕ
  pub into : IsTrue (n.holds region v)
  pub from : IsFalse (n.holds region u)
  pub pair : IsPersistent a n region s m

-- the node is the head of a region in which the pair is persistent
pub record HeadLoads (a : Accesses) (n : Nest) (y s m : ℕ) : Type 0 where
  pub region : ℕ
  pub head : y ≡ n.head region
  pub pair : IsPersistent a n region s m

-- the events of the graph's walks: the accesses of the nodes, the persistent pairs of the region that
-- an edge enters, and before the first node those of the region that it heads
pub record AreRegionEvents (g : Graph) (a : Accesses) (n : Nest) (e : Events) : Type 0 where
  pub accesses : accesses_in e ≡ a
  pub edges : (u v s m : ℕ) → Edge g u v → (e.brings u v s ≡ Some m) ↔ EdgeLoads a n u v s m
  pub start : (s m : ℕ) → (e.at_start s ≡ Some m) ↔ HeadLoads a n g.first s m
