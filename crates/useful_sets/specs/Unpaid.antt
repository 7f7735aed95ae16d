-- Useful sets, by any hits, where an edge may pay for a set: it pays for the set's next load.
use Rattle.std.specs.Prelude.{◌≡◌, ◌≢◌, ◌↔◌, ℕ, ◌<◌, List, [], ◌∷◌, Some, length, IsTrue}
use Rattle.crpd_base.specs.Sets.{has}
use Rattle.flat_graph.specs.Graph.{Graph, GoesOn}
use Rattle.icache.specs.Accesses.{Accesses, first_access}
use Rattle.must_cache.specs.Marks.{sets_at}
use Rattle.must_cache.specs.Events.{Events, accesses_in}
use Rattle.must_cache.specs.Prepaid.{IsPrepaidHit, Pays}

-- no edge of this walk from y, up to its first access of set s, pays for s
abbrev pub IsUnpaid : Accesses → (ℕ → ℕ → ℕ → Type 0) → ℕ → ℕ → List ℕ → Type 0
IsUnpaid a pays s y [] = Unit {0}
IsUnpaid a pays s y (x ∷ later) = a.set y ≢ s → (pays y x s → ⊥) × IsUnpaid a pays s x later

-- some path from y on has as its first access to set s one at z, a hit, and no edge before it pays
-- for s
pub record LeadsUnpaid (g : Graph) (a : Accesses) (hit : ℕ → Type 0)
    (pays : ℕ → ℕ → ℕ → Type 0) (y s z : ℕ) : Type 0 where
  pub later : List ℕ
  pub goes_on : GoesOn g y later
  pub first : first_access a s (y ∷ later) ≡ Some z
  pub unpaid : IsUnpaid a pays s y later
  pub hits : hit z

-- set s is useful before y, by these hits and payments
abbrev pub UsefulUnpaid : Graph → Accesses → (ℕ → Type 0) → (ℕ → ℕ → ℕ → Type 0) → ℕ → ℕ → Type 0
UsefulUnpaid g a hit pays y s = (z : ℕ) × LeadsUnpaid g a hit pays y s z

-- set s is useful before y where what edges bring is prepaid: by prepaid hits, and by what edges pay
-- for
abbrev pub UsefulPrepaid : Graph → Events → ℕ → ℕ → Type 0
UsefulPrepaid g e y s = UsefulUnpaid g (accesses_in e) (IsPrepaidHit g e) (Pays g e) y s

-- no edge pays for anything
abbrev pub pays_nothing : ℕ → ℕ → ℕ → Type 0
pays_nothing u v s = ⊥

-- the sets have exactly the members that are useful by these hits and payments
pub record AreUsefulUnpaid (g : Graph) (a : Accesses) (hit : ℕ → Type 0)
    (pays : ℕ → ℕ → ℕ → Type 0) (sets : List (List ℕ)) : Type 0 where
  pub count : length sets ≡ g.size
  pub each : (y s : ℕ) → y < g.size
      → IsTrue (has (sets_at sets y) s) ↔ UsefulUnpaid g a hit pays y s
