-- The order of numbering as a comparison.
use Rattle.std.specs.Prelude.{ℕ, List, [], slice_index_or}
use Rattle.std.specs.declared.cmp.Ordering.{Ordering}
use Rattle.std.specs.Ordering.{nat_cmp, ordering_then}
use Rattle.std.specs.Cmp.Lexicographic.{slice_cmp}
use Rattle.flat_graph.specs.FlatGraph.{FlatNode}
use Rattle.flat_graph.specs.declared.graph.StoredNode.{StoredNode}

-- lists of numbers in lexicographic order
abbrev pub list_cmp : List ℕ → List ℕ → Ordering
list_cmp = slice_cmp nat_cmp

-- by context, then by address
abbrev pub flat_cmp : FlatNode → FlatNode → Ordering
flat_cmp n m = ordering_then (list_cmp n.context m.context) (nat_cmp n.address m.address)

-- the calls under way and the address of a stored node
abbrev pub stored_flat_node : List (List ℕ) → StoredNode → FlatNode
stored_flat_node contexts s = record {
  context = slice_index_or contexts s.context [];
  address = s.address;
}
