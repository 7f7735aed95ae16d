-- The invariant while the potentials and the bound are checked.
use Rattle.std.specs.Prelude.{◌≡◌, ℕ, ◌+◌, ◌*◌, ◌≤◌, Bool, List, length}
use Rattle.crpd_base.specs.declared.data.TaskPart.{TaskPart}
use Rattle.flat_graph.specs.CodeGraph.{CodeGraph}
use Rattle.loop_regions.specs.CodeNest.{CodeNest, IsNestOf}
use Rattle.loop_regions.specs.Nest.{Nest, IsBackEdge, Leaves, LeavesLast, Item, IsItem}
use Rattle.loop_regions.specs.Potentials.{Costs, Potentials, item_potential}

-- the nest is that of the graph, there is a potential for each node and each region, and each node
-- is a hit or not
pub record HasAllPotentials (g : CodeGraph) (n : CodeNest) (t : TaskPart)
    (hits : List Bool) : Type 0 where
  pub beside : IsNestOf g n
  pub nodes : length t.potentials ≡ length g.nodes
  pub loops : length t.loops ≡ length n.heads
  pub all_hits : length hits ≡ length g.nodes

-- the inequalities on an edge and on the regions that it leaves
pub record EdgePaid (n : Nest) (c : Costs) (p : Potentials) (u v : ℕ) : Type 0 where
  pub edge : c.edge u v ≤ p.node u
  pub left : (r : ℕ) → Leaves n u v r → n.bound r * p.node (n.head r) ≤ p.loop r
  pub inside : (i : Item) → (IsBackEdge n u v → ⊥) → ((r : ℕ) → Leaves n u v r → ⊥) → IsItem n v i
      → c.edge u v + item_potential p i ≤ p.node u
  pub exit : (r : ℕ) (i : Item) → (IsBackEdge n u v → ⊥) → LeavesLast n u v r → IsItem n v i
      → n.bound r * p.node (n.head r) + item_potential p i ≤ p.loop r
