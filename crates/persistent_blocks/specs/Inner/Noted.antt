-- What is noted of the nodes of regions while their persistent pairs are found.
use Rattle.std.specs.Prelude.{◌≡◌, ◌⊎◌, ◌↔◌, ℕ, ◌<◌, Bool, ◌||◌, ◌&&◌, ◌==◌, List, length, Some, IsTrue}
use Rattle.crpd_base.specs.Sets.{has}
use Rattle.icache.specs.Accesses.{Accesses}
use Rattle.icache.specs.Cache.{Cache, held}
use Rattle.loop_regions.specs.CodeNest.{has as lists}
use Rattle.loop_regions.specs.Nest.{Nest}
use Rattle.must_cache.specs.Marks.{sets_at}
use Rattle.must_cache.specs.States.{state_at}
use Rattle.persistent_blocks.specs.Regions.{IsPersistent}

-- of the nodes that were noted: a block of each of their sets, and the sets with two blocks
pub record HasNoted (a : Accesses) (noted : ℕ → Bool) (first : Cache) (mixed : List ℕ) : Type 0 where
  pub some : (s m : ℕ) → held first s ≡ Some m
      → (y : ℕ) × IsTrue (noted y) × (a.set y ≡ s) × (a.block y ≡ m)
  pub each : (y : ℕ) → IsTrue (noted y)
      → IsTrue (has mixed (a.set y)) ⊎ (held first (a.set y) ≡ Some (a.block y))
  pub apart : (s m : ℕ) → IsTrue (has mixed s)
      → ((y : ℕ) → IsTrue (noted y) → a.set y ≡ s → a.block y ≡ m) → ⊥

-- the nodes that were noted, and node y
abbrev pub with_node : (ℕ → Bool) → ℕ → ℕ → Bool
with_node noted y z = noted z || (z == y)

-- the same for each region
abbrev pub AreNoted : Accesses → (ℕ → ℕ → Bool) → List Cache → List (List ℕ) → Type 0
AreNoted a noted firsts mixed =
    (r : ℕ) → r < length firsts → HasNoted a (noted r) (state_at firsts r) (sets_at mixed r)

-- the nodes that were noted in each region, and node y in these regions
abbrev pub with_round : (ℕ → ℕ → Bool) → List ℕ → ℕ → ℕ → ℕ → Bool
with_round noted regions y r z = noted r z || (lists regions r && (z == y))

-- the states hold the persistent pairs of the regions
abbrev pub ArePersistentPairs : Accesses → Nest → List Cache → Type 0
ArePersistentPairs a n blocks =
    (r s m : ℕ) → (held (state_at blocks r) s ≡ Some m) ↔ IsPersistent a n r s m
