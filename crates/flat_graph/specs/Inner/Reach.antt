-- The points that were found so far.
use Rattle.std.specs.Prelude.{◌≡◌, ◌≢◌, ℕ, ◌+◌, ◌<◌, ◌≤◌, List, [], ◌++◌, length, Contains, ◌↔◌}
use Rattle.std.specs.Prelude.{◌⊎◌, slice_get, Some, None, Option, All, AllPairs}
use Rattle.std.specs.BTreeMap.{BTreeMap, get}
use Rattle.rv_decode.specs.Flow.{Flows, Words, flows}
use Rattle.flat_graph.specs.Inner.NumberingOrder.{list_cmp}
use Rattle.flat_graph.specs.FlatGraph.{FlatNode, IsNode, successors, error_of}
use Rattle.flat_graph.specs.Inner.GraphErrors.{HasInstructionAt}
use Rattle.flat_graph.specs.Inner.GraphParts.{IsNodeBody}
use Rattle.flat_graph.specs.Inner.Points.{point_nodes, points_of, flat_steps}
use Rattle.flat_graph.specs.declared.graph.NodeBody.{NodeBody}
use Rattle.flat_graph.specs.declared.reach.Found.{Found}
use Rattle.flat_graph.specs.declared.reach.NodeSteps.{NodeSteps}
use Rattle.flat_graph.specs.declared.points.FoundPoint.{FoundPoint}
use Rattle.flat_graph.specs.declared.points.ProgramPoint.{ProgramPoint}

-- each list of calls has its place as its number, and no other list has that number
abbrev pub AreNumbered : BTreeMap (List ℕ) ℕ → List (List ℕ) → Type 0
AreNumbered numbers lists =
    (c : List ℕ) (n : ℕ) → (get list_cmp numbers c ≡ Some n) ↔ (slice_get lists n ≡ Some c)

-- the lists so far have kept their places
abbrev pub ExtendsLists : List (List ℕ) → List (List ℕ) → Type 0
ExtendsLists old new = (n : ℕ) (c : List ℕ) → slice_get old n ≡ Some c → slice_get new n ≡ Some c

-- each point has a list of calls
abbrev pub HaveLists : List (List ℕ) → List ProgramPoint → Type 0
HaveLists lists = All (λ (s : ProgramPoint). s.context < length lists)

-- no point is at two places
abbrev pub AreDistinct : List ProgramPoint → Type 0
AreDistinct = AllPairs (λ (s t : ProgramPoint). s ≡ t → ⊥)

-- the points, each with its place
pub record ArePlaced (points : List ProgramPoint) (placed : List FoundPoint) : Type 0 where
  pub plain : points_of placed ≡ points
  pub places : (k : ℕ) (p : FoundPoint) → slice_get placed k ≡ Some p → p.place ≡ k

-- the nodes `some` are in the new list, and all that was added is among them
pub record AreAdded (old some new : List FlatNode) : Type 0 where
  pub more : List FlatNode
  pub behind : new ≡ old ++ more
  pub among : (n : FlatNode) → Contains more n → Contains some n
  pub has : (n : FlatNode) → Contains some n → Contains new n

-- nodes of the graph, among them the first one, and the successors of those before a place
pub record IsExplored (code : Flows) (entry : ℕ) (place : ℕ) (nodes : List FlatNode) : Type 0 where
  pub all : (n : FlatNode) → Contains nodes n → IsNode code entry n
  pub first : slice_get nodes 0 ≡ Some (record { context = []; address = entry })
  pub closed : (k : ℕ) (n m : FlatNode) → k < place → slice_get nodes k ≡ Some n
      → Contains (successors code entry n) m → Contains nodes m

-- the instruction at a node without error, and where it leads
pub record AreNodeSteps (words : Words) (entry : ℕ) (n : FlatNode)
    (found : NodeSteps) : Type 0 where
  pub no_error : error_of (flows words) entry n ≡ None
  pub stands : HasInstructionAt words n.address found.ins
  pub leads : flat_steps n.context found.steps ≡ successors (flows words) entry n

-- the body of a node, whose successors are places in these nodes; none if it has an error
abbrev pub IsFoundBody : Words → ℕ → List FlatNode → FlatNode → Option NodeBody → Type 0
IsFoundBody words entry nodes n None = error_of (flows words) entry n ≢ None
IsFoundBody words entry nodes n (Some body) = IsNodeBody words entry nodes n body

-- each body is that of the node at its place
abbrev pub AreFoundBodies : Words → ℕ → List FlatNode → List (Option NodeBody) → Type 0
AreFoundBodies words entry nodes bodies =
    (k : ℕ) (n : FlatNode) (b : Option NodeBody) → slice_get nodes k ≡ Some n
    → slice_get bodies k ≡ Some b → IsFoundBody words entry nodes n b

-- the nodes of the points that were found
abbrev pub nodes_found : Found → List FlatNode
nodes_found found = point_nodes found.contexts.lists.items found.points.keys

-- what was found, after the points before a place were followed
pub record AreFollowed (words : Words) (entry place : ℕ) (found : Found) : Type 0 where
  pub numbered : AreNumbered found.contexts.numbers found.contexts.lists.items
  pub inside : HaveLists found.contexts.lists.items found.points.keys
  pub explored : IsExplored (flows words) entry place (nodes_found found)
  pub lists : length found.contexts.lists.items ≤ place + 1
  pub bodies : AreFoundBodies words entry (nodes_found found) found.bodies.items
  pub count : length found.bodies.items ≡ place

-- each point was followed, or more points than allowed were found
pub record AreAllFollowed (words : Words) (entry most : ℕ) (found : Found) : Type 0 where
  pub place : ℕ
  pub so_far : AreFollowed words entry place found
  pub ended : (length found.points.keys ≤ place) ⊎ (most < length found.points.keys)
  pub few : length found.points.keys ≤ most + 2
