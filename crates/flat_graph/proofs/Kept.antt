-- The nodes of a graph as they are stored. A stored node has at most two successors.
use Rattle.std.proofs.Common.{◌≡◌, ℕ, zero, suc, ◌<◌, ◌≤◌, List, [], ◌∷◌, length, map}
use Rattle.std.proofs.Common.{slice_index_or, get_or, sym, ap, ◌∙◌, subst, arith}
use Rattle.std.proofs.lemmas.List.{length-map, get_or-map}
use Rattle.flat_graph.specs.CodeGraph.{CodeGraph, node_of, no_node}
use Rattle.flat_graph.specs.Inner.StoredGraph.{next_nodes, stored_node, stored_graph}
use Rattle.flat_graph.specs.declared.graph.NextNodes.{NextNodes}
use Rattle.flat_graph.specs.declared.graph.NextNodes.TheVariants.{Ends, To, Either}
use Rattle.flat_graph.specs.declared.graph.StoredNode.{StoredNode}

at_most_two : (o : NextNodes) → length (next_nodes o) ≤ 2
at_most_two Ends = omega arith
at_most_two (To v) = omega arith
at_most_two (Either v w) = omega arith

-- the same by number
pub two_at : (contexts : List (List ℕ)) (nodes : List StoredNode) (u : ℕ)
    → length (slice_index_or (map (stored_node contexts) nodes) u no_node).next ≤ 2
two_at contexts [] u = omega arith
two_at contexts (n ∷ nodes) zero = at_most_two n.next
two_at contexts (n ∷ nodes) (suc u) = two_at contexts nodes u

module _ (contexts : List (List ℕ)) (nodes : List StoredNode) (first : ℕ) (g : CodeGraph)
    (is : stored_graph contexts nodes first ≡ g) (u : ℕ) (lt : u < length g.nodes) where
  pub kept_within : u < length nodes
  kept_within =
      subst (λ n. u < n) (length-map nodes (stored_node contexts))
      (subst (λ (x : CodeGraph). u < length x.nodes) (sym is) lt)

  -- the node with a number is the one that is stored at its place
  pub kept_node : (n : StoredNode) → n ≡ get_or nodes u n → stored_node contexts n ≡ node_of g u
  kept_node n at =
      ap (stored_node contexts) at
      ∙ sym (get_or-map (stored_node contexts) nodes u n no_node kept_within)
      ∙ ap (λ (x : CodeGraph). node_of x u) is
