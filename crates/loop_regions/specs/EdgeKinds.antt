-- How nodes and edges relate to the regions.
use Rattle.std.specs.Prelude.{ℕ, Option, Some, None}
use Rattle.loop_regions.specs.Nest.{Nest, IsBackEdge, Leaves, LeavesLast, Item, Node, Loop}
use Rattle.loop_regions.specs.declared.edge_kind.EdgeKind.{EdgeKind}
use Rattle.loop_regions.specs.declared.edge_kind.EdgeKind.TheVariants.{Back, Inside, Exit}

-- the item of a node, given the region that it heads, if any
abbrev pub item_by : Option ℕ → ℕ → Item
item_by None v = Node v
item_by (Some r) v = Loop r

-- how an edge relates to the regions: back to a head round its source, out of none, or out of r as
-- the outermost
abbrev pub IsEdgeKind : Nest → ℕ → ℕ → EdgeKind → Type 0
IsEdgeKind n u v Back = IsBackEdge n u v
IsEdgeKind n u v Inside = (IsBackEdge n u v → ⊥) × ((r : ℕ) → Leaves n u v r → ⊥)
IsEdgeKind n u v (Exit r) = (IsBackEdge n u v → ⊥) × LeavesLast n u v r
