-- The tests of clause 3.
use Rattle.std.proofs.Common.{◌≡◌, ◌↔◌, ℕ, ◌<◌, Bool, true, List, [], ◌∷◌, length, All, Option}
use Rattle.std.proofs.Common.{IsTrue, IsFalse, refl, sym, ◌∙◌, arith, ne_eqb, eq-eqb, ◌==◌}
use Rattle.std.proofs.lemmas.Bool.{false≢true}
use Rattle.std.proofs.lemmas.Option.{none-some}
use Rattle.icache.specs.Accesses.{Accesses}
use Rattle.flat_graph.specs.Graph.{Graph, Edge}
use Rattle.evict_sets.specs.Full.{Listed, FullState, listed}
use Rattle.evict_sets.specs.CacheClauses.{ListsLeaders, StatesMeet}
use Rattle.evict_sets.specs.ListedPart.{block_of_set}
use Rattle.evict_sets.proofs.FullLaws.{unlisted_state_law}
use Rattle.evict_sets.specs.Listing.{IsStateAfter}
use Rattle.flat_graph.proofs.Nexts.{all_at_edges, edges_at_all}
use Rattle.cert_check.specs.Inner.JudgedNodes.{EdgeStateMeets}
use Rattle.evict_sets.proofs.FullBlocks.{AreHeld, held_at}
use Rattle.evict_sets.proofs.FullLaws.{as_listed}

module _ (g : Graph) (a : Accesses) (l : Listed) where
  -- a listed state is empty if it has no pairs
  pub starts : (y : ℕ) (sure : List (ℕ × ℕ)) (b : Bool) → IsTrue (l.is_listed y)
      → ((s : ℕ) → l.state y s ≡ block_of_set sure s) → b ≡ (length sure == 0) → y ≡ g.first
      → IsTrue b ↔ (y ≡ g.first → (s m : ℕ) → FullState g a l y s m → ⊥)
  starts y [] b t is e first = (
    (λ h at s m st. none-some m (sym (is s) ∙ as_listed g a l y s m t st)),
    (λ h. e ∙ eq-eqb 0 0 refl),
  )
  starts y (x ∷ sure) b t is e first = (
    (λ h. absurd
        (false≢true (sym (ne_eqb (length (x ∷ sure)) 0 (λ z. absurd (omega arith))) ∙ sym e ∙ h))),
    (λ h. absurd
        (h first x.0 x.1
        (listed y x.0 x.1 t (is x.0
        ∙ (let own : (x.0 == x.0) ≡ true = eq-eqb x.0 x.0 refl in rw own refl))))),
  )

  -- a listed end of an edge
  pub edge_listed : (u v : ℕ) (after : List (Option ℕ)) (b : Bool) → IsTrue (l.is_listed v)
      → IsStateAfter g a l u after
      → IsTrue b ↔ AreHeld g a l after (l.state v) → IsTrue b ↔ EdgeStateMeets g a l u v
  edge_listed u v after b t S test =
      let H = held_at g a l u v after t S in (
        (λ h. H.0 (test.0 h)),
        (λ h. test.1 (H.1 h)),
      )

  -- an unlisted one
  pub edge_unlisted : (u v : ℕ) → Edge g u v → v < g.size → ListsLeaders g l
      → IsFalse (l.is_listed v) → EdgeStateMeets g a l u v
  edge_unlisted u v e v_lt leaders out s m st =
      unlisted_state_law g a l u v s m leaders v_lt e out st

  -- the tests at the edges and at the first node
  pub meets : (u : ℕ) → (u ≡ g.first → (s m : ℕ) → FullState g a l u s m → ⊥)
      → All (EdgeStateMeets g a l u) (g.next u) → StatesMeet g a l u
  meets u first all = record {
    first = first;
    edges = λ v s m e. all_at_edges g u (EdgeStateMeets g a l u) all v e s m;
  }

  pub meets_all : (u : ℕ) → u < g.size → StatesMeet g a l u
      → All (EdgeStateMeets g a l u) (g.next u)
  meets_all u lt M = edges_at_all g u (EdgeStateMeets g a l u) lt (λ v e s m st. M.edges v s m e st)
