-- The events of a walk: the accesses of its nodes, and what its edges bring into the cache sets.
use Rattle.std.specs.Prelude.{ℕ, ◌==◌, if◌then◌else◌, List, [], ◌∷◌, Option, Some, None, Bool}
use Rattle.std.specs.Prelude.{false}
use Rattle.icache.specs.Accesses.{Accesses}

-- the block of each node, and its cache set; the block that the edge from one node to another brings
-- into each set after the access of the first, if any; and what is brought before the first node
pub record Events : Type 0 where
  pub block : ℕ → ℕ
  pub set : ℕ → ℕ
  pub brings : ℕ → ℕ → ℕ → Option ℕ
  pub at_start : ℕ → Option ℕ

-- the accesses with what edges bring
abbrev pub events : Accesses → (ℕ → ℕ → ℕ → Option ℕ) → (ℕ → Option ℕ) → Events
events a brings at_start =
    record { block = a.block; set = a.set; brings = brings; at_start = at_start }

-- the accesses among the events
abbrev pub accesses_in : Events → Accesses
accesses_in e = record { block = e.block; set = e.set }

-- no edge brings anything, and nothing is brought before the first node
abbrev pub brings_nothing : ℕ → ℕ → ℕ → Option ℕ
brings_nothing u v s = None

abbrev pub nothing_at_start : ℕ → Option ℕ
nothing_at_start s = None

-- the accesses alone
abbrev pub accesses_alone : Accesses → Events
accesses_alone a = events a brings_nothing nothing_at_start

-- the block of an event, if there is one, otherwise what was there before it
abbrev pub or_before : Option ℕ → Option ℕ → Option ℕ
or_before None before = before
or_before (Some m) before = Some m

-- the test of a set, of those into which nothing is brought
abbrev pub unless_brought : Option ℕ → Bool → Bool
unless_brought None test = test
unless_brought (Some m) test = false

-- after the access of node u: its own block in its own set, otherwise what was there before it
abbrev pub after_node : Events → ℕ → ℕ → Option ℕ → Option ℕ
after_node e s u before = if e.set u == s then Some (e.block u) else before

-- the block of the last event of set s on a walk to y, which is listed without y and with its last
-- node first: the edge to y is the last event, the access of the node before y the one before it
abbrev pub last_event : Events → ℕ → List ℕ → ℕ → Option ℕ
last_event e s [] y = e.at_start s
last_event e s (u ∷ before) y =
    or_before (e.brings u y s) (after_node e s u (last_event e s before u))
