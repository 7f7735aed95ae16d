-- The points in the order of numbering, with the places at which they were found.
use Rattle.std.specs.Prelude.{◌≡◌, ℕ, ◌<◌, ◌≤◌, List, [], length, slice_get, Some}
use Rattle.rv_decode.specs.Flow.{Words, flows}
use Rattle.flat_graph.specs.FlatGraph.{FlatNode, IsNumbering}
use Rattle.flat_graph.specs.Inner.Points.{point_nodes, points_of}
use Rattle.flat_graph.specs.Inner.Reach.{AreFoundBodies, HaveLists}
use Rattle.flat_graph.specs.declared.reach.Ordered.{Ordered}
use Rattle.flat_graph.specs.declared.points.FoundPoint.{FoundPoint}

-- the nodes in the order of numbering
abbrev pub nodes_of : Ordered → List FlatNode
nodes_of ordered = point_nodes ordered.lists.items (points_of ordered.points.items)

-- two points were found at two places
abbrev pub HaveOwnPlaces : List FoundPoint → Type 0
HaveOwnPlaces points =
    (i j : ℕ) (p q : FoundPoint) → slice_get points i ≡ Some p → slice_get points j ≡ Some q
    → p.place ≡ q.place → i ≡ j

-- at the place at which a point was found is its rank
abbrev pub AreRanks : List FoundPoint → List ℕ → Type 0
AreRanks points ranks =
    (k : ℕ) (p : FoundPoint) → slice_get points k ≡ Some p → slice_get ranks p.place ≡ Some k

-- the node of the entry with no call under way is the one of this number
abbrev pub IsEntryAt : ℕ → Ordered → ℕ → Type 0
IsEntryAt entry ordered first =
    slice_get (nodes_of ordered) first ≡ Some (record { context = []; address = entry })

-- the nodes of the graph in the order of numbering, each with the place at which it was found, and
-- the bodies in the order of finding; the first that was found is that of the entry
pub record AreOrdered (words : Words) (entry : ℕ) (ordered : Ordered) : Type 0 where
  pub found : List FlatNode
  pub numbering : IsNumbering (flows words) entry (nodes_of ordered)
  pub inside : HaveLists ordered.lists.items (points_of ordered.points.items)
  pub count : length found ≡ length ordered.points.items
  pub places : (k : ℕ) (n : FlatNode) (p : FoundPoint) → slice_get (nodes_of ordered) k ≡ Some n
      → slice_get ordered.points.items k ≡ Some p → slice_get found p.place ≡ Some n
  pub all : (i : ℕ) → i < length found
      → (k : ℕ) × (p : FoundPoint) × (slice_get ordered.points.items k ≡ Some p) × (p.place ≡ i)
  pub bodies : AreFoundBodies words entry found ordered.bodies.items
  pub body_count : length found ≤ length ordered.bodies.items
  pub first : slice_get found 0 ≡ Some (record { context = []; address = entry })
