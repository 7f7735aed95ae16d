-- Clauses 3 to 5 checked along an order of the nodes.
use Rattle.std.proofs.Common.{◌≡◌, ◌↔◌, ℕ, ◌+◌, ◌-◌, ◌<◌, ◌≤◌, Bool, if◌then◌else◌, List, length}
use Rattle.std.proofs.Common.{Option, Some, IsTrue, IsFalse, refl, sym, ap, ◌∙◌, subst, arith}
use Rattle.std.specs.Prelude.{slice_index}
use Rattle.icache.specs.Accesses.{Accesses}
use Rattle.flat_graph.specs.Graph.{Graph, Edge}
use Rattle.evict_sets.specs.Full.{Listed}
use Rattle.evict_sets.specs.CacheClauses.{StatesMeet}
use Rattle.evict_sets.specs.Listing.{IsChainOrder}
use Rattle.cert_check.specs.Inner.JudgedNodes.{IsUsefulAt, IsLeastFailing, lesser}
use Rattle.cert_check.proofs.LeastSeen.{IsLeastSeen, SeenTo, SeenFrom, finished, lowest}
use Rattle.cert_check.proofs.LeastSeen.{seen_before}
use Rattle.evict_sets.proofs.HitsTo.{BlocksTo}

module _ (g : Graph) (a : Accesses) (l : Listed) where
  -- the nodes before place k are checked, and the blocks are the state of an unlisted node there
  pub record StatesTo (order : List ℕ) (blocks : List (Option ℕ)) (least : Option ℕ)
      (k : ℕ) : Type 0 where
    pub state : BlocksTo g a l order blocks k
    pub seen : IsLeastSeen (StatesMeet g a l) (SeenTo order k) g.size least

  pub states_least : (order : List ℕ) (blocks : List (Option ℕ)) (least : Option ℕ) (k : ℕ)
      → IsChainOrder g l order → g.size ≤ k
      → StatesTo order blocks least k → IsLeastFailing (StatesMeet g a l) g.size least
  states_least order blocks least k O le H =
      finished (StatesMeet g a l) (SeenTo order k) g.size least (λ u lt. let p = O.every u lt in
      (p.0, (let q = p.1 in omega (arith, q, le)), p.2)) H.seen

  -- the nodes from place k on are checked for P, and the set is the full useful set of the one at
  -- place k
  pub record UsefulFrom (P : ℕ → Type 0) (order : List ℕ) (useful : List ℕ) (least : Option ℕ)
      (k : ℕ) : Type 0 where
    pub within : k ≤ g.size
    pub here : k < g.size → IsUsefulAt g a l (slice_index order k) useful
    pub seen : IsLeastSeen P (SeenFrom order g.size k) g.size least

  pub useful_follows : (P : ℕ → Type 0) (order useful : List ℕ) (least : Option ℕ)
      (k place node : ℕ) → IsChainOrder g l order → place + 1 ≡ k → slice_index order place ≡ node
      → UsefulFrom P order useful least k
      → (v : ℕ) → Edge g node v → IsFalse (l.is_listed v) → IsUsefulAt g a l v useful
  useful_follows P order useful least k place node O is at H v e out =
      let lt = H.within in
      let b = O.behind place v (omega (arith, is, lt)) (subst (λ x. Edge g x v) (sym at) e) out in
      let same : slice_index order k ≡ v = ap (slice_index order) (sym is) ∙ b.1 in
      subst (λ x. IsUsefulAt g a l x useful) same (H.here (let c = b.0 in omega (arith, is, c)))

  -- one more node, from the last: its set, and the check of it
  pub useful_step : (P : ℕ → Type 0) (order useful new : List ℕ) (least next : Option ℕ) (b : Bool)
      (done : ℕ) → IsChainOrder g l order → done < length order
      → IsUsefulAt g a l (slice_index order (length order - 1 - done)) new
      → IsTrue b ↔ P (slice_index order (length order - 1 - done))
      → next ≡ (if b then least
      else Some (lesser least (slice_index order (length order - 1 - done))))
      → UsefulFrom P order useful least (length order - done)
      → UsefulFrom P order new next (length order - (done + 1))
  useful_step P order useful new least next b done O lt U test is H =
      let at : length order - 1 - done ≡ length order - (done + 1) = omega arith in
      subst (UsefulFrom P order new next) at (record {
        within = omega (arith, O.count);
        here = λ below. U;
        seen =
            subst (IsLeastSeen P (SeenFrom order g.size (length order - 1 - done)) g.size) (sym is)
            (lowest P (SeenFrom order g.size (length order - done))
            (SeenFrom order g.size (length order - 1 - done)) g.size least
            (slice_index order (length order - 1 - done)) b
            (O.nodes (length order - 1 - done) (omega (arith, lt, O.count)))
            (λ u s ne. seen_before order g.size (length order - 1 - done) (length order - done)
            (slice_index order (length order - 1 - done)) u (omega (arith, lt)) refl s ne) test
            H.seen);
      })

  pub useful_least : (P : ℕ → Type 0) (order useful : List ℕ) (least : Option ℕ) (k : ℕ)
      → IsChainOrder g l order → k ≡ 0 → UsefulFrom P order useful least k
      → IsLeastFailing P g.size least
  useful_least P order useful least k O zero_k H =
      finished P (SeenFrom order g.size k) g.size least (λ u lt. let p = O.every u lt in
      (p.0, omega (arith, zero_k), p.1, p.2)) H.seen
