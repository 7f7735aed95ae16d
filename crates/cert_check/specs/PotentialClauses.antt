-- The clauses on the potentials and on the bound.
use Rattle.std.specs.Prelude.{◌≡◌, ℕ, ◌*◌, ◌<◌, ◌≤◌}
use Rattle.flat_graph.specs.Graph.{Graph, Edge}
use Rattle.loop_regions.specs.Nest.{Nest, Leaves, Item, IsItem}
use Rattle.loop_regions.specs.Potentials.{Costs, Potentials, item_potential, MeetsAt}
pub use Rattle.loop_regions.specs.Potentials.{edge_costs}
pub use Rattle.evict_sets.specs.Listing.{CountsHits}

-- the inequalities on the node's edges, on each region that such an edge leaves, and on the region
-- whose head the node is
pub record PotentialsMeet (g : Graph) (n : Nest) (c : Costs) (p : Potentials) (u : ℕ) : Type 0 where
  pub edges : MeetsAt g n c p u
  pub left : (v r : ℕ) → Edge g u v → Leaves n u v r → n.bound r * p.node (n.head r) ≤ p.loop r
  pub loop : (r : ℕ) → r < n.size → n.head r ≡ u → n.bound r * p.node u ≤ p.loop r

-- the bound is at least the potential of the first node's item
abbrev pub BoundMeets : Graph → Nest → Potentials → ℕ → Type 0
BoundMeets g n p bound = (i : Item) → IsItem n g.first i → item_potential p i ≤ bound
