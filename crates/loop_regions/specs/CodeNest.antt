-- A task's regions as code stores them.
use Rattle.std.specs.Prelude.{◌≡◌, ℕ, Bool, ◌==◌, ◌≤◌, List, [], length, slice_index}
use Rattle.std.specs.Prelude.{slice_index_or}
use Rattle.std.specs.List.{All, list_any}
use Rattle.crpd_base.specs.Limits.{most_iterations}
use Rattle.crpd_base.specs.declared.data.LoopAt.{LoopAt}
use Rattle.flat_graph.specs.CodeGraph.{CodeGraph, graph_of, places_of}
use Rattle.loop_regions.specs.Nest.{Nest}
use Rattle.loop_regions.specs.Stated.{IsRegions, HasNoLoopRefusals, IsSameHead}

-- whether a number is in a list
abbrev pub has : List ℕ → ℕ → Bool
has xs r = list_any (λ s. s == r) xs

-- the list of a node, empty past the last node
abbrev pub row : List (List ℕ) → ℕ → List ℕ
row rows y = slice_index_or rows y []

-- the head and the bound of each region, and for each node the regions that hold it
pub record CodeNest : Type 0 where
  pub heads : List ℕ
  pub bounds : List ℕ
  pub holders : List (List ℕ)

-- the regions that it represents
abbrev pub nest_of : CodeNest → Nest
nest_of n = record {
  size = length n.heads;
  head = λ r. slice_index n.heads r;
  bound = λ r. slice_index n.bounds r;
  holds = λ r y. has (row n.holders y) r;
}

-- each stated loop has a bound from 1 to 1,000,000
abbrev pub AreBounded : List LoopAt → Type 0
AreBounded = All (λ (l : LoopAt). (1 ≤ l.bound) × (l.bound ≤ most_iterations))

-- it represents the graph's regions for some stated loops, with none of the refusals of loops
pub record IsNestOf (g : CodeGraph) (n : CodeNest) : Type 0 where
  pub loops : List LoopAt
  pub bounded : AreBounded loops
  pub one_head : (a : ℕ) → IsSameHead loops a → ⊥
  pub is_regions : IsRegions (graph_of g) (places_of g) loops (nest_of n)
  pub accepted : HasNoLoopRefusals (graph_of g) (nest_of n)
  pub nodes : length n.holders ≡ length g.nodes
