-- Which nodes are hits by Sure, and what leaders surely hold: by a state of each leader, and the
-- sets that are unsure in it. The same for prepaid hits, and what leaders hold, prepaid.
use Rattle.std.specs.Prelude.{◌≡◌, ◌↔◌, ◌⊎◌, ℕ, ◌<◌, List, length, slice_index_or, Option, Some, None}
use Rattle.std.specs.Prelude.{Bool, false}
use Rattle.crpd_base.specs.Sets.{has}
use Rattle.flat_graph.specs.Graph.{Graph, IsLeader}
use Rattle.icache.specs.Cache.{Cache, held}
use Rattle.icache.specs.Accesses.{Accesses}
use Rattle.must_cache.specs.Marks.{sets_at}
use Rattle.must_cache.specs.Sure.{Sure, CountsSureHits}
use Rattle.must_cache.specs.Events.{Events}
use Rattle.must_cache.specs.Prepaid.{Prepaid, CountsPrepaidHits}
use Rattle.must_cache.specs.States.{state_at}

-- what a leader surely holds: the set is not among the unsure ones, and the state at the leader's
-- place has the block
pub record IsSureLeader (g : Graph) (a : Accesses) (place : Option ℕ) (states : List Cache)
    (unsure : List ℕ) (y : ℕ) : Type 0 where
  pub at : ℕ
  pub is : place ≡ Some at
  pub within : at < length states
  pub each : (s m : ℕ) → ((has unsure s ≡ false) × (held (state_at states at) s ≡ Some m))
      ↔ Sure g a y s m

-- a node whose state is kept: a leader, or one from which an edge brings something
abbrev pub IsKept : Graph → (ℕ → ℕ → ℕ → Option ℕ) → ℕ → Type 0
IsKept g brings y =
    IsLeader g y ⊎ ((v : ℕ) × (s : ℕ) × (m : ℕ) × (brings y v s ≡ Some m))

-- what such a node holds, prepaid, in the same way
pub record HoldsPrepaid (g : Graph) (e : Events) (place : Option ℕ) (states : List Cache)
    (unsure : List ℕ) (y : ℕ) : Type 0 where
  pub at : ℕ
  pub is : place ≡ Some at
  pub within : at < length states
  pub each : (s m : ℕ) → ((has unsure s ≡ false) × (held (state_at states at) s ≡ Some m))
      ↔ Prepaid g e y s m

-- which nodes are prepaid hits, and what the nodes whose states are kept hold, prepaid
pub record ArePrepaidParts (g : Graph) (e : Events) (places : List (Option ℕ)) (states : List Cache)
    (hits : List Bool) (unsure : List (List ℕ)) : Type 0 where
  pub hits_count : length hits ≡ g.size
  pub places_count : length places ≡ g.size
  pub unsure_count : length unsure ≡ g.size
  pub hit : CountsPrepaidHits g e (λ y. slice_index_or hits y false)
  pub kept : (y : ℕ) → y < g.size → IsKept g e.brings y
      → HoldsPrepaid g e (slice_index_or places y None) states (sets_at unsure y) y

-- which nodes are hits by Sure, and what the leaders surely hold
pub record AreSureParts (g : Graph) (a : Accesses) (places : List (Option ℕ)) (states : List Cache)
    (hits : List Bool) (unsure : List (List ℕ)) : Type 0 where
  pub hits_count : length hits ≡ g.size
  pub places_count : length places ≡ g.size
  pub unsure_count : length unsure ≡ g.size
  pub hit : CountsSureHits g a (λ y. slice_index_or hits y false)
  pub leader : (y : ℕ) → y < g.size → IsLeader g y
      → IsSureLeader g a (slice_index_or places y None) states (sets_at unsure y) y
