-- For steps 5 and 7: no edge costs more than the longest instruction.
use Rattle.std.proofs.Common.{◌≡◌, ℕ, zero, suc, ◌<◌, ◌≤◌, Bool, false, List, [], ◌∷◌, Contains}
use Rattle.std.proofs.Common.{IsTrue, ap, inl, inr, arith}
use Rattle.std.proofs.lemmas.Bool.{cases_eq}
use Rattle.crpd_base.specs.declared.data.Platform.{Platform}
use Rattle.flat_graph.specs.Graph.{Graph, Edge}
use Rattle.flat_graph.specs.EdgeCost.{NodeCode, edge_cost, end_cost}
use Rattle.evict_sets.specs.Longest.{greatest_of, longest_at_node, longest_below, longest}

of_ge : (f : ℕ → ℕ) (xs : List ℕ) (x : ℕ) → Contains xs x → f x ≤ greatest_of f xs
of_ge f [] x (k, lt, e) = absurd (omega arith)
of_ge f (y ∷ xs) x (zero, lt, e) = let same : f y ≡ f x = ap f e in omega (arith, same)
of_ge f (y ∷ xs) x (suc k, lt, e) = let r = of_ge f xs x (k, omega arith, e) in omega (arith, r)

below_ge : (p : Platform) (g : Graph) (l : NodeCode) (answers : ℕ → Bool) (n u : ℕ) → u < n
    → longest_at_node p g l answers u ≤ longest_below p g l answers n
below_ge p g l answers zero u h = absurd (omega arith)
below_ge p g l answers (suc n) u h =
    elim (cases_eq u n) [
      | inl e ↦ let same : longest_at_node p g l answers u ≡ longest_at_node p g l answers n =
          ap (longest_at_node p g l answers) e in omega (arith, same)
      | inr ne ↦ let r = below_ge p g l answers n u (omega arith) in omega (arith, r)
    ]

pub edge_longest : (p : Platform) (g : Graph) (l : NodeCode) (answers : ℕ → Bool) (u v : ℕ)
    → Edge g u v → edge_cost p l (λ y. false) u v ≤ longest p g l answers
edge_longest p g l answers u v e =
    let at = of_ge (edge_cost p l (λ y. false) u) (g.next u) v e.1 in
    let all = below_ge p g l answers g.size u e.0 in
    omega (arith, at, all)

pub end_longest : (p : Platform) (g : Graph) (l : NodeCode) (answers : ℕ → Bool) (u : ℕ)
    → u < g.size → IsTrue (answers u) → end_cost p l (λ y. false) u ≤ longest p g l answers
end_longest p g l answers u h b =
    let all = below_ge p g l answers g.size u h in
    let at : end_cost p l (λ y. false) u ≤ longest_at_node p g l answers u = rw b (omega arith) in
    omega (arith, all, at)
