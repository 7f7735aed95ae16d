-- Full states as blocks, and which nodes are counted as hits, along an order of the nodes.
use Rattle.std.proofs.Common.{◌≡◌, ◌≢◌, ◌↔◌, ℕ, ◌+◌, ◌<◌, ◌≤◌, Bool, false, List, length, set}
use Rattle.std.proofs.Common.{Option, IsTrue, IsFalse, sym, ap, ◌∙◌, subst, ⊎_elim, arith}
use Rattle.std.proofs.Common.{get_or-set_same, get_or-set_other, slice_index}
use Rattle.std.proofs.lemmas.Bool.{cases_eq}
use Rattle.icache.specs.Accesses.{Accesses}
use Rattle.flat_graph.specs.Graph.{Graph, Edge}
use Rattle.evict_sets.specs.Full.{Listed, IsHit}
use Rattle.evict_sets.specs.CacheClauses.{ListsLeaders}
use Rattle.evict_sets.specs.Listing.{IsStateAt, IsStateAfter, IsChainOrder, counted}
use Rattle.evict_sets.proofs.FullBlocks.{state_behind}

module _ (g : Graph) (a : Accesses) (l : Listed) where
  -- the blocks are the state of an unlisted node at place k
  pub record BlocksTo (order : List ℕ) (blocks : List (Option ℕ)) (k : ℕ) : Type 0 where
    pub room : length blocks ≡ 512
    pub follows : k < g.size → IsFalse (l.is_listed (slice_index order k))
        → IsStateAt g a l (slice_index order k) blocks

  -- the state after a node is that of an unlisted one that follows
  pub blocks_more : (order : List ℕ) (new : List (Option ℕ)) (k node : ℕ)
      → IsChainOrder g l order → ListsLeaders g l → slice_index order k ≡ node
      → length new ≡ 512 → IsStateAfter g a l node new → BlocksTo order new (k + 1)
  blocks_more order new k node O leaders at room S = record {
    room = room;
    follows = λ within out.
        let e = O.before k within out in
        state_behind g a l node (slice_index order (k + 1)) new leaders (O.nodes (k + 1) within)
        (subst (λ x. Edge g x (slice_index order (k + 1))) at e) out S;
  }

  -- and it is known whether the nodes before place k are hits
  pub record HitsTo (order : List ℕ) (blocks : List (Option ℕ)) (hits : List Bool) (k : ℕ)
      : Type 0 where
    pub state : BlocksTo order blocks k
    pub hit : (j : ℕ) → j < k
        → IsTrue (counted hits (slice_index order j)) ↔ IsHit g a l (slice_index order j)

  pub hits_more : (order : List ℕ) (blocks new : List (Option ℕ)) (hits : List Bool) (k node : ℕ)
      (b : Bool) → IsChainOrder g l order → ListsLeaders g l → k < g.size
      → slice_index order k ≡ node → length hits ≡ g.size
      → length new ≡ 512 → IsStateAfter g a l node new → IsTrue b ↔ IsHit g a l node
      → HitsTo order blocks hits k → HitsTo order new (set hits node b) (k + 1)
  hits_more order blocks new hits k node b O leaders lt at count room S test H = record {
    state = blocks_more order new k node O leaders at room S;
    hit = λ j j_lt. ⊎_elim
        (λ (same : slice_index order j ≡ node).
        subst (λ x. IsTrue (counted (set hits node b) x) ↔ IsHit g a l x) (sym same)
        (here (get_or-set_same hits node b false inside)))
        (λ ne.
        let old : counted (set hits node b) (slice_index order j)
        ≡ counted hits (slice_index order j) =
        get_or-set_other hits node (slice_index order j) b false ne in
        let h = H.hit j (before j j_lt ne) in
        ((λ t. h.0 (sym old ∙ t)), (λ p. old ∙ h.1 p)))
        (cases_eq (slice_index order j) node);
  } where
    inside : node < length hits
    inside = let n = O.nodes k lt in omega (arith, n, at, count)

    here : counted (set hits node b) node ≡ b
        → IsTrue (counted (set hits node b) node) ↔ IsHit g a l node
    here e = ((λ t. test.0 (sym e ∙ t)), (λ p. e ∙ test.1 p))

    before : (j : ℕ) → j < k + 1 → slice_index order j ≢ node → j < k
    before j j_lt ne =
        ⊎_elim (λ (e : j ≡ k). absurd (ne (ap (slice_index order) e ∙ at))) (λ other. omega arith)
        (cases_eq j k)

  pub hits_all : (order : List ℕ) (blocks : List (Option ℕ)) (hits : List Bool) (k : ℕ)
      → IsChainOrder g l order → g.size ≤ k → HitsTo order blocks hits k
      → (y : ℕ) → y < g.size → IsTrue (counted hits y) ↔ IsHit g a l y
  hits_all order blocks hits k O le H y lt =
      let p = O.every y lt in
      subst (λ x. IsTrue (counted hits x) ↔ IsHit g a l x) p.2
      (H.hit p.0 (let q = p.1 in omega (arith, q, le)))
