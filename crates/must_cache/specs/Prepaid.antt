-- What a set holds over all walks, if what edges bring is counted as loaded: it is paid for there.
use Rattle.std.specs.Prelude.{◌≡◌, ◌↔◌, ℕ, ◌<◌, Bool, List, ◌∷◌, Some, IsTrue, Option}
use Rattle.flat_graph.specs.Graph.{Graph, Edge, IsWalk}
use Rattle.icache.specs.Accesses.{Accesses}
use Rattle.must_cache.specs.Sure.{Sure}
use Rattle.must_cache.specs.Events.{Events, accesses_alone, after_node, last_event}

-- set s holds block m before y, prepaid: on each walk to y the last event of s is of m
abbrev pub Prepaid : Graph → Events → ℕ → ℕ → ℕ → Type 0
Prepaid g e y s m = (before : List ℕ) → IsWalk g (y ∷ before) → last_event e s before y ≡ Some m

-- the node's own set holds its own block, prepaid
abbrev pub IsPrepaidHit : Graph → Events → ℕ → Type 0
IsPrepaidHit g e y = Prepaid g e y (e.set y) (e.block y)

-- the test counts as hits exactly the nodes that are prepaid hits
abbrev pub CountsPrepaidHits : Graph → Events → (ℕ → Bool) → Type 0
CountsPrepaidHits g e is_hit = (y : ℕ) → y < g.size → IsTrue (is_hit y) ↔ IsPrepaidHit g e y

-- where nothing is brought, Prepaid is Sure
abbrev pub PrepaidLaw : Type 0
PrepaidLaw =
    (g : Graph) (a : Accesses) (y s m : ℕ) → Prepaid g (accesses_alone a) y s m ↔ Sure g a y s m

-- set s holds block m after node u, prepaid: on each walk to u the last event of s, the access of u
-- among them, is of m
abbrev pub PrepaidAfter : Graph → Events → ℕ → ℕ → ℕ → Type 0
PrepaidAfter g e u s m =
    (before : List ℕ) → IsWalk g (u ∷ before)
    → after_node e s u (last_event e s before u) ≡ Some m

-- the edge from u to v pays for set s: it brings a block into s that s does not hold after u
abbrev pub Pays : Graph → Events → ℕ → ℕ → ℕ → Type 0
Pays g e u v s = (m : ℕ) × (e.brings u v s ≡ Some m) × (PrepaidAfter g e u s m → ⊥)

-- the test counts as payments of edges exactly these
abbrev pub CountsPayments : Graph → Events → (ℕ → ℕ → ℕ → Bool) → Type 0
CountsPayments g e pays = (u v s : ℕ) → Edge g u v → IsTrue (pays u v s) ↔ Pays g e u v s

-- the start pays for set s: a block is brought into s before the first node
abbrev pub PaysAtStart : (ℕ → Option ℕ) → ℕ → Type 0
PaysAtStart at_start s = (m : ℕ) × (at_start s ≡ Some m)
