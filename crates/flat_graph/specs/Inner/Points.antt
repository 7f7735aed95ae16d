-- Program points as nodes of the flat graph, with the lists of calls that their numbers refer to.
use Rattle.std.specs.Prelude.{ℕ, ◌+◌, ◌≤◌, List, [], ◌∷◌, map, All, slice_index_or}
use Rattle.rv_decode.specs.Address.{end_address}
use Rattle.flat_graph.specs.FlatGraph.{FlatNode}
use Rattle.flat_graph.specs.declared.points.FoundPoint.{FoundPoint}
use Rattle.flat_graph.specs.declared.points.ProgramPoint.{ProgramPoint}
use Rattle.flat_graph.specs.declared.points.Steps.{Steps}
use Rattle.flat_graph.specs.declared.points.Steps.TheVariants.{Ends, To, Either, Away}

-- the node of a point, by the lists of calls under way
abbrev pub point_node : List (List ℕ) → ProgramPoint → FlatNode
point_node lists s = record { context = slice_index_or lists s.context []; address = s.address }

-- the nodes of some points
abbrev pub point_nodes : List (List ℕ) → List ProgramPoint → List FlatNode
point_nodes lists = map (point_node lists)

-- the points without the places at which they were found
abbrev pub points_of : List FoundPoint → List ProgramPoint
points_of = map (λ (p : FoundPoint). p.point)

-- the next nodes of a point with these calls under way
abbrev pub flat_steps : List ℕ → Steps → List FlatNode
flat_steps c Ends = []
flat_steps c (To a) = record { context = c; address = a } ∷ []
flat_steps c (Either a b) =
    record { context = c; address = a } ∷ record { context = c; address = b } ∷ []
flat_steps c (Away d a) = record { context = d; address = a } ∷ []

-- each address has room for a word below the return address of jobs
abbrev pub IsBelowEnd : List ℕ → Type 0
IsBelowEnd = All (λ a. a + 4 ≤ end_address)
