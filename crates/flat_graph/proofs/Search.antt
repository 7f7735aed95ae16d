-- A search among the stored nodes, which are in the order of numbering.
use Rattle.std.proofs.Common.{◌≡◌, ℕ, ◌<◌, ◌≤◌, List, length, get_or, sym, ap, ◌∙◌, subst, ⊎_elim}
use Rattle.std.proofs.Common.{arith, Err}
use Rattle.std.proofs.lemmas.Bool.{cases_lt}
use Rattle.std.proofs.lemmas.List.{length-map, get_or-map}
use Rattle.std.proofs.lemmas.Option.{slice_get-get_or}
use Rattle.std.specs.declared.cmp.Ordering.TheVariants.{Equal}
use Rattle.std.specs.Ordering.{ordering_index}
use Rattle.std.specs.List.Sorted.{IsBinarySearchResult, IsNonDecreasingBy}
use Rattle.flat_graph.specs.FlatGraph.{FlatNode, IsNumberedBefore}
use Rattle.flat_graph.specs.Numbered.{node_at}
use Rattle.flat_graph.specs.CodeGraph.{GraphNode, CodeGraph, no_node, places_of}
use Rattle.flat_graph.specs.Inner.StoredGraph.{IsStoredGraph, stored_graph, stored_node}
use Rattle.flat_graph.specs.Inner.NumberingOrder.{flat_cmp, stored_flat_node}
use Rattle.flat_graph.specs.declared.graph.StoredNode.{StoredNode}
use Rattle.flat_graph.proofs.Order.{flat_equal, flat_same, rises}

-- the place of the node with a number
stands : (cs : List (List ℕ)) (ns : List StoredNode) (first u : ℕ) (d : StoredNode) → u < length ns
    → node_at (places_of (stored_graph cs ns first)) u ≡ stored_flat_node cs (get_or ns u d)
stands cs ns first u d lt =
    ap (λ (n : GraphNode). record { context = n.context; address = n.address })
    (get_or-map (stored_node cs) ns u d no_node lt)

module _ (cs : List (List ℕ)) (ns : List StoredNode) (first : ℕ)
    (kept : IsStoredGraph cs ns first) where
  abbrev flats : List FlatNode
  flats = kept.of_code.of_code.nodes

  size : length ns ≡ length flats
  size = sym (length-map ns (stored_node cs)) ∙ kept.of_code.of_code.flat.size

  named : (u : ℕ) (d : FlatNode) → u < length ns
      → node_at (places_of (stored_graph cs ns first)) u ≡ get_or flats u d
  named u d lt =
      let p = kept.of_code.of_code.places.node u (get_or flats u d)
      (slice_get-get_or flats u d (subst (λ n. u < n) size lt)) in
      λ i. record { context = p.0 i; address = p.1 i }

  in_order : (i j : ℕ) (d : StoredNode) → i < j → j < length ns
      → IsNumberedBefore (stored_flat_node cs (get_or ns i d)) (stored_flat_node cs (get_or ns j d))
  in_order i j d lt within =
      let e : FlatNode = stored_flat_node cs d in
      subst (λ n. IsNumberedBefore n (stored_flat_node cs (get_or ns j d)))
      (sym (named i e (omega arith)) ∙ stands cs ns first i d (omega arith))
      (subst (λ n. IsNumberedBefore (get_or flats i e) n)
      (sym (named j e within) ∙ stands cs ns first j d within)
      (kept.of_code.of_code.flat.numbering.ordered i j e lt (subst (λ n. j < n) size within)))

  rising : (x : FlatNode) → IsNonDecreasingBy
      (λ s. ordering_index (flat_cmp (stored_flat_node cs s) x)) ns
  rising x i j d le within =
      ⊎_elim
      (λ lt. rises (stored_flat_node cs (get_or ns i d)) (stored_flat_node cs (get_or ns j d)) x
      (in_order i j d lt within))
      (λ ge. subst (λ k. ordering_index (flat_cmp (stored_flat_node cs (get_or ns i d)) x)
      ≤ ordering_index (flat_cmp (stored_flat_node cs (get_or ns k d)) x)) (the i j (omega arith))
      (omega arith))
      (cases_lt i j)
    where
      the : (a b : ℕ) → a ≡ b → a ≡ b
      the a b e = e

  pub found_at : (x : FlatNode) (place : ℕ) (d : StoredNode) → place < length ns
      → flat_cmp (stored_flat_node cs (get_or ns place d)) x ≡ Equal
      → (g : CodeGraph) → stored_graph cs ns first ≡ g
      → (place < length g.nodes) × (node_at (places_of g) place ≡ x)
  found_at x place d lt same g e =
      subst (λ (g : CodeGraph). (place < length g.nodes) × (node_at (places_of g) place ≡ x)) e (
        subst (λ n. place < n) (sym (length-map ns (stored_node cs))) lt,
        stands cs ns first place d lt ∙ flat_equal (stored_flat_node cs (get_or ns place d)) x same,
      )

  pub nowhere : (x : FlatNode) (i : ℕ) (d : StoredNode)
      → IsBinarySearchResult (λ s. flat_cmp (stored_flat_node cs s) x) ns (Err i)
      → (g : CodeGraph) → stored_graph cs ns first ≡ g → (u : ℕ) → u < length g.nodes
      → node_at (places_of g) u ≡ x → ⊥
  nowhere x i d parts g e u lt at =
      let below : u < length ns = subst (λ n. u < n) (length-map ns (stored_node cs))
      (subst (λ (h : CodeGraph). u < length h.nodes) (sym e) lt) in
      let part = parts (rising x) in
      let there : stored_flat_node cs (get_or ns u d) ≡ x =
      sym (stands cs ns first u d below)
      ∙ (subst (λ (h : CodeGraph). node_at (places_of h) u ≡ x) (sym e) at) in
      let same : flat_cmp (stored_flat_node cs (get_or ns u d)) x ≡ Equal =
      ap (λ n. flat_cmp n x) there ∙ flat_same x in
      ⊎_elim
      (λ before. let less = part.0 u d (omega arith) before in cc)
      (λ after. let more = part.1 u d after below in cc)
      (cases_lt u i)
