-- Edges chained by their source.
use Rattle.std.proofs.Common.{◌≡◌, ◌≢◌, ℕ, ◌+◌, ◌<◌, List, [], ◌∷◌, ◌++◌, Option, Some, None}
use Rattle.std.proofs.Common.{length, get_or, set, refl, sym, ap, ◌∙◌, subst, ⊎_elim, arith}
use Rattle.std.proofs.Common.{length-append, get_or-set_same, get_or-set_other}
use Rattle.std.proofs.lemmas.Bool.{cases_eq}
use Rattle.std.proofs.lemmas.List.{get_or_append_left}
use Rattle.std.proofs.Math.Seq.{get_or-append_seam}
use Rattle.std.proofs.lemmas.List.{length-set, get_or_default}
use Rattle.dataflow.specs.Inner.Search.{past_edge, IsLastEdge, IsChained}

-- the next edge is the last one of its source
here : (ends : ℕ → ℕ × ℕ) (k : ℕ) → IsLastEdge ends (k + 1) (ends k).0 (Some k)
here ends k = record {
  edge = λ j e.
      let same : k ≡ j = cc in
      subst (λ i. (i < k + 1) × ((ends i).0 ≡ (ends k).0)) same (omega arith, refl);
  last = λ j lt s. omega arith;
}

-- for a different node the last edge is unchanged
other : (ends : ℕ → ℕ × ℕ) (k m : ℕ) (o : Option ℕ) → m ≢ (ends k).0 → IsLastEdge ends k m o
    → IsLastEdge ends (k + 1) m o
other ends k m o ne h = record {
  edge = λ j e. (omega (arith, h.edge j e), (h.edge j e).1);
  last = λ j lt s.
      ⊎_elim (λ (e : j ≡ k). absurd (ne (sym s ∙ ap (λ i. (ends i).0) e)))
      (λ (n : j ≢ k). h.last j (omega arith) s) (cases_eq j k);
}

pub chain_more : (nodes k : ℕ) (ends : ℕ → ℕ × ℕ) (last before : List (Option ℕ)) (o : Option ℕ)
    → IsChained nodes k ends last before → (ends k).0 < nodes → o ≡ get_or last (ends k).0 None
    → IsChained nodes (k + 1) ends (set last (ends k).0 (Some k)) (before ++ o ∷ [])
chain_more nodes k ends last before o h lt is = record {
  all_nodes = length-set last (ends k).0 (Some k) ∙ h.all_nodes;
  all_edges = length-append before (o ∷ []) ∙ ap (λ n. n + 1) h.all_edges;
  of_node = λ m in_nodes. ⊎_elim
      (λ (e : m ≡ (ends k).0).
      let fits : (ends k).0 < length last = omega (arith, h.all_nodes) in
      subst (λ i. IsLastEdge ends (k + 1) i (get_or (set last (ends k).0 (Some k)) i None)) (sym e)
      (rw get_or-set_same (here ends k)))
      (λ (ne : m ≢ (ends k).0).
      rw get_or-set_other (other ends k m (get_or last m None) ne (h.of_node m in_nodes)))
      (cases_eq m (ends k).0);
  of_edge = λ j below. ⊎_elim
      (λ (e : j ≡ k).
      let at_end : get_or (before ++ o ∷ []) j None ≡ get_or last (ends k).0 None =
      ap (λ i. get_or (before ++ o ∷ []) i None) (e ∙ sym h.all_edges)
      ∙ get_or-append_seam before o [] None ∙ is in
      subst (λ q. IsLastEdge ends j (ends j).0 q) (sym at_end)
      (subst (λ i. IsLastEdge ends i (ends i).0 (get_or last (ends k).0 None)) (sym e)
      (h.of_node (ends k).0 lt)))
      (λ (ne : j ≢ k).
      let early : j < length before = omega (arith, h.all_edges) in
      rw get_or_append_left (h.of_edge j (omega arith)))
      (cases_eq j k);
}

-- the same for a list that is equal to the longer one
pub chain_step : (nodes k source : ℕ) (ends : ℕ → ℕ × ℕ) (last before longer : List (Option ℕ))
    (o : Option ℕ)
    → IsChained nodes k ends last before → (ends k).0 ≡ source → source < nodes
    → o ≡ get_or last source o
    → longer ≡ before ++ o ∷ [] → IsChained nodes (k + 1) ends (set last source (Some k)) longer
chain_step nodes k source ends last before longer o h s lt is e =
    subst (λ b. IsChained nodes (k + 1) ends (set last source (Some k)) b) (sym e)
    (subst (λ i. IsChained nodes (k + 1) ends (set last i (Some k)) (before ++ o ∷ [])) s
    (chain_more nodes k ends last before o h (subst (λ i. i < nodes) (sym s) lt)
    (is ∙ get_or_default last source o None (omega (arith, h.all_nodes))
    ∙ ap (λ i. get_or last i None) (sym s))))

-- what is read of a chain
pub read_last : (nodes edges m : ℕ) (ends : ℕ → ℕ × ℕ) (last before : List (Option ℕ))
    (o : Option ℕ)
    → IsChained nodes edges ends last before → m < nodes → o ≡ get_or last m o
    → IsLastEdge ends edges m o
read_last nodes edges m ends last before o h lt e =
    subst (λ q. IsLastEdge ends edges m q)
    (sym (e ∙ get_or_default last m o None (omega (arith, h.all_nodes)))) (h.of_node m lt)

pub read_before : (nodes edges k m : ℕ) (ends : ℕ → ℕ × ℕ) (last before : List (Option ℕ))
    (o : Option ℕ)
    → IsChained nodes edges ends last before → k < edges → (ends k).0 ≡ m → o ≡ get_or before k o
    → IsLastEdge ends k m o
read_before nodes edges k m ends last before o h lt s e =
    subst (λ i. IsLastEdge ends k i o) s
    (subst (λ q. IsLastEdge ends k (ends k).0 q)
    (sym (e ∙ get_or_default before k o None (omega (arith, h.all_edges)))) (h.of_edge k lt))

pub falls_back : (ends : ℕ → ℕ × ℕ) (k m : ℕ) (o next : Option ℕ) → IsLastEdge ends k m o
    → next ≡ Some k → past_edge o < past_edge next
falls_back ends k m None next h e = let n = ap past_edge e in omega arith
falls_back ends k m (Some i) next h e =
    let n = ap past_edge e in let lower = (h.edge i refl).0 in omega arith
