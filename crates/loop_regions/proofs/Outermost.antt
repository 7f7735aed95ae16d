-- Back edges and left regions are decidable, and one left region is the outermost.
use Rattle.std.proofs.Common.{◌≡◌, ◌⊎◌, ℕ, zero, suc, ◌<◌, IsTrue, below_more, inl, inr, ⊎_elim}
use Rattle.std.proofs.Common.{arith}
use Rattle.std.proofs.lemmas.Bool.{cases_eq}
use Rattle.flat_graph.specs.Graph.{Graph}
use Rattle.flat_graph.proofs.Decided.{Decided, is_true, is_false, is_below, «both», same_fact}
use Rattle.flat_graph.proofs.Decided.{some_below}
use Rattle.loop_regions.specs.Nest.{Nest, IsNested, IsBackEdge, Leaves, LeavesLast}

module _ (n : Nest) where
  pub back : (u v : ℕ) → Decided (IsBackEdge n u v)
  back u v =
      same_fact (λ s. (s.0, s.1, s.2.0, s.2.1)) (λ b. (b.0, b.1, (b.2, b.3)))
      (some_below (λ r. IsTrue (n.holds r u) × (v ≡ n.head r))
      (λ r. «both» (is_true (n.holds r u)) (cases_eq v (n.head r))) n.size)

  pub leaves : (u v r : ℕ) → Decided (Leaves n u v r)
  leaves u v r =
      same_fact (λ s. (s.0, s.1.0, s.1.1)) (λ l. (l.0, (l.1, l.2)))
      («both» (is_below r n.size) («both» (is_true (n.holds r u)) (is_false (n.holds r v))))

module _ (g : Graph) (n : Nest) (N : IsNested g n) (u v : ℕ) where
  -- r holds the heads of those regions below k that the edge leaves
  abbrev HoldsHeads : ℕ → ℕ → Type 0
  HoldsHeads r k = (s : ℕ) → s < k → Leaves n u v s → IsTrue (n.holds r (n.head s))

  -- the edge leaves no region below k, or one region that it leaves holds the heads of all of those
  abbrev Found : ℕ → Type 0
  Found k =
      ((s : ℕ) → s < k → Leaves n u v s → ⊥) ⊎ ((r : ℕ) × Leaves n u v r × HoldsHeads r k)

  and_k : (k r : ℕ) → HoldsHeads r k → (Leaves n u v k → IsTrue (n.holds r (n.head k)))
      → HoldsHeads r (suc k)
  and_k k r below here s lt =
      below_more (λ x. Leaves n u v x → IsTrue (n.holds r (n.head x))) k below here s (omega arith)

  -- one more region, which the edge leaves
  with_it : (k : ℕ) → Leaves n u v k → Found k → Found (suc k)
  with_it k l (inl none) =
      inr (k, l, and_k k k (λ s lt m. absurd (none s lt m)) (λ m. N.holds_head k l.0))
  with_it k l (inr f) = ⊎_elim
      (λ k_in. inr (f.0, f.1, and_k k f.0 f.2 (λ m. k_in (n.head k) (N.holds_head k l.0))))
      (λ k_out. inr (
        k,
        l,
        and_k k k (λ s lt m. k_out (n.head s) (f.2 s lt m)) (λ m. N.holds_head k l.0),
      ))
      (N.nested k f.0 u l.0 f.1.0 l.1 f.1.1)

  -- one more region, which it does not leave
  without : (k : ℕ) → (Leaves n u v k → ⊥) → Found k → Found (suc k)
  without k stays (inl none) =
      inl (λ s lt. below_more (λ x. Leaves n u v x → ⊥) k none stays s (omega arith))
  without k stays (inr f) = inr (f.0, f.1, and_k k f.0 f.2 (λ m. absurd (stays m)))

  below : (k : ℕ) → Found k
  below zero = inl (λ s lt m. absurd (omega arith))
  below (suc k) =
      ⊎_elim (λ l. with_it k l (below k)) (λ stays. without k stays (below k)) (leaves n u v k)

  -- the edge leaves no region, or there is an outermost one that it leaves
  pub outermost : ((r : ℕ) → Leaves n u v r → ⊥) ⊎ ((r : ℕ) × LeavesLast n u v r)
  outermost =
      ⊎_elim (λ none. inl (λ r l. none r l.0 l)) (λ f. inr (f.0, (f.1, λ s m. f.2 s m.0 m)))
      (below n.size)
