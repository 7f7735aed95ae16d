-- Full states stored as the blocks of the cache sets.
use Rattle.std.proofs.Common.{◌≡◌, ◌↔◌, ℕ, zero, suc, ◌-◌, ◌<◌, ◌≤◌, List, []}
use Rattle.std.proofs.Common.{◌∷◌, length, drop, Option, Some, None, IsTrue, IsFalse}
use Rattle.std.proofs.Common.{refl, sym, ap, ◌∙◌, ⊎_elim, arith}
use Rattle.std.proofs.lemmas.List.{drop_all}
use Rattle.icache.specs.Cache.{held}
use Rattle.icache.specs.Accesses.{Accesses}
use Rattle.flat_graph.specs.Graph.{Graph, Edge}
use Rattle.evict_sets.specs.Full.{Listed, FullState, listed, accessed, passed}
use Rattle.evict_sets.specs.CacheClauses.{ListsLeaders, StateAfter}
use Rattle.evict_sets.specs.ListedPart.{block_of_set}
use Rattle.evict_sets.proofs.FullLaws.{as_listed, unlisted_state_law}
use Rattle.evict_sets.specs.Listing.{IsStateAt, IsStateAfter}

pub past : (blocks : List (Option ℕ)) (s : ℕ) → length blocks ≤ s → held blocks s ≡ None
past [] s le = refl
past (x ∷ blocks) zero le = absurd (omega arith)
past (x ∷ blocks) (suc s) le = past blocks s (omega arith)

-- no block at first
pub none_held : (blocks : List (Option ℕ)) (sure : List (ℕ × ℕ)) → ((s : ℕ) → held blocks s ≡ None)
    → (s : ℕ) → held blocks s ≡ block_of_set (drop (length sure - 0) sure) s
none_held blocks sure none s =
    let empty : drop (length sure - 0) sure ≡ [] = drop_all (length sure - 0) sure (omega arith) in
    none s ∙ sym (ap (λ xs. block_of_set xs s) empty)

module _ (g : Graph) (a : Accesses) (l : Listed) where
  pub listed_state : (y : ℕ) (blocks : List (Option ℕ)) → IsTrue (l.is_listed y)
      → ((s : ℕ) → held blocks s ≡ l.state y s) → IsStateAt g a l y blocks
  listed_state y blocks t is s m = (
    λ st. is s ∙ as_listed g a l y s m t st,
    λ e. listed y s m t (sym (is s) ∙ e),
  )

  -- it is the state of the unlisted node that follows
  pub state_behind : (u v : ℕ) (blocks : List (Option ℕ)) → ListsLeaders g l → v < g.size
      → Edge g u v → IsFalse (l.is_listed v) → IsStateAfter g a l u blocks
      → IsStateAt g a l v blocks
  state_behind u v blocks leaders lt e out S s m = (
    λ st. (S s m).0 (unlisted_state_law g a l u v s m leaders lt e out st),
    λ at. ⊎_elim (λ h. accessed u v s m out e h.0 h.1) (λ h. passed u v s m out e h.0 h.1)
        ((S s m).1 at),
  )

  -- the tests of clause 3 at a listed end of an edge
  abbrev pub AreHeld : List (Option ℕ) → (ℕ → Option ℕ) → Type 0
  AreHeld blocks state = (s m : ℕ) → state s ≡ Some m → held blocks s ≡ Some m

  pub held_at : (u v : ℕ) (after : List (Option ℕ)) → IsTrue (l.is_listed v)
      → IsStateAfter g a l u after
      → AreHeld after (l.state v) ↔ ((s m : ℕ) → FullState g a l v s m → StateAfter g a l u s m)
  held_at u v after t S = (
    λ h s m st. (S s m).1 (h s m (as_listed g a l v s m t st)),
    λ h s m e. (S s m).0 (h s m (listed v s m t e)),
  )
