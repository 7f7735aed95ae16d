-- The regions of a graph before they are known to be nested.
use Rattle.std.specs.Prelude.{◌≡◌, ◌≢◌, ◌↔◌, ◌⊎◌, ℕ, ◌<◌, Bool, not, ◌&&◌, ◌==◌, nat_lt, List}
use Rattle.std.specs.Prelude.{length, slice_index, IsTrue, IsFalse, Option, Some, None}
use Rattle.std.specs.Prelude.{true, if◌then◌else◌, Contains}
use Rattle.std.specs.List.{list_any}
use Rattle.flat_graph.specs.Graph.{Graph, Edge}
use Rattle.loop_regions.specs.Nest.{Nest, IsInside}
use Rattle.loop_regions.specs.CodeNest.{has, row, CodeNest, nest_of}
use Rattle.loop_regions.specs.Inner.Heads.{nodes_of, bounds_of}
use Rattle.loop_regions.specs.declared.found.Regions.{Regions}

-- the nest that found regions represent
abbrev pub code_nest : Regions → CodeNest
code_nest r = record {
  heads = nodes_of r.heads;
  bounds = bounds_of r.heads;
  holders = r.holders;
}

-- found regions as a nest
abbrev pub nest_in : Regions → Nest
nest_in r = nest_of (code_nest r)

-- whether a node is the head of region r
abbrev pub is_head : List ℕ → ℕ → ℕ → Bool
is_head heads v r = nat_lt r (length heads) && (slice_index heads r == v)

-- whether a region that holds v has a different head, and does not hold u
abbrev pub enters : Regions → ℕ → ℕ → Bool
enters r u v =
    list_any (λ q. not (is_head (nodes_of r.heads) v q) && not (has (row r.holders u) q)) (row r.holders v)

-- v is entered from u in some region of which it is not the head
abbrev pub Enters : Nest → ℕ → ℕ → Type 0
Enters n u v =
    (r : ℕ) × (r < n.size) × IsTrue (n.holds r v) × (v ≢ n.head r) × IsFalse (n.holds r u)

-- the same, by an edge from u to v
abbrev pub EntersFrom : Graph → Nest → ℕ → ℕ → Type 0
EntersFrom g n u v = Edge g u v × Enters n u v

-- w is v, and is so entered from u
abbrev pub EntersAt : Nest → ℕ → ℕ → ℕ → Type 0
EntersAt n u v w = (w ≡ v) × Enters n u v

-- w is one of these nodes, and is so entered from u
abbrev pub EntersSome : Nest → ℕ → List ℕ → ℕ → Type 0
EntersSome n u vs w = Contains vs w × Enters n u w

-- v is the first node, and is in a region of which it is not the head
abbrev pub IsInsideStart : Graph → Nest → ℕ → Type 0
IsInsideStart g n v = (v ≡ g.first) × (r : ℕ) × (r < n.size) × IsTrue (n.holds r v) × (v ≢ n.head r)

-- for each region, the regions that hold all of its nodes
pub record AreAround (n : Nest) (rows : List (List ℕ)) : Type 0 where
  pub regions : length rows ≡ n.size
  pub is : (r s : ℕ) → r < n.size → IsTrue (has (row rows r) s) ↔ ((s < n.size) × IsInside n r s)

-- two regions of which neither holds the other, by these rows
abbrev pub lie_across : List (List ℕ) → ℕ → ℕ → Bool
lie_across rows r s = not (has (row rows r) s) && not (has (row rows s) r)

-- two of these regions do not hold one another
abbrev pub are_across : List (List ℕ) → List ℕ → Bool
are_across rows among = list_any (λ r. list_any (lie_across rows r) among) among

-- whether a region is different from this one
abbrev pub is_other : Option ℕ → ℕ → Bool
is_other None r = true
is_other (Some b) r = not (b == r)

-- whether a region lies inside the best one so far, if there is one
abbrev pub is_better : List (List ℕ) → Option ℕ → ℕ → Bool
is_better rows None r = true
is_better rows (Some b) r = has (row rows r) b

-- the innermost region so far
abbrev pub better : List (List ℕ) → Option ℕ → Option ℕ → ℕ → Option ℕ
better rows besides best r = if is_other besides r && is_better rows best r then Some r else best

-- it is the innermost of these regions, except the one besides
abbrev pub IsInnermost : List (List ℕ) → List ℕ → Option ℕ → Option ℕ → Type 0
IsInnermost rows among besides None = (s : ℕ) → IsTrue (has among s) → besides ≡ Some s
IsInnermost rows among besides (Some r) =
    IsTrue (has among r) × (besides ≢ Some r)
    × ((s : ℕ) → IsTrue (has among s) → besides ≢ Some s → IsTrue (has (row rows r) s))

-- of two of these regions one holds the other, and holding is transitive
pub record AreInLine (rows : List (List ℕ)) (among : List ℕ) : Type 0 where
  pub either : (r s : ℕ) → IsTrue (has among r) → IsTrue (has among s)
      → IsTrue (has (row rows r) s) ⊎ IsTrue (has (row rows s) r)
  pub onward : (r s t : ℕ) → IsTrue (has among r) → IsTrue (has (row rows r) s)
      → IsTrue (has (row rows s) t) → IsTrue (has (row rows r) t)
