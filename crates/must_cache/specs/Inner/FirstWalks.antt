-- One walk to each node, and the sets in which an edge brings something different from the chosen
-- walk: definitions that only contracts inside the crate cite.
use Rattle.std.specs.Prelude.{◌≡◌, ◌≢◌, ◌↔◌, ◌⊎◌, ℕ, ◌+◌, ◌*◌, ◌<◌, ◌≤◌, List, [], ◌∷◌, ◌++◌}
use Rattle.std.specs.Prelude.{length, Contains, slice_index_or, Option, Some, None, Bool, true, map}
use Rattle.std.specs.Prelude.{false, IsTrue, slice_set}
use Rattle.std.specs.List.{All, sum_by}
use Rattle.crpd_base.specs.Sets.{has}
use Rattle.flat_graph.specs.Graph.{Graph, Edge, IsWalk}
use Rattle.icache.specs.Cache.{Cache, held}
use Rattle.must_cache.specs.Events.{Events, or_before, after_node, last_event}
use Rattle.must_cache.specs.Marks.{sets_at}
use Rattle.must_cache.specs.Inner.Held.{Held}
use Rattle.must_cache.specs.Inner.Marks.{Marks}
use Rattle.must_cache.specs.States.{state_at}
use Rattle.must_cache.specs.FirstWalks.{IsKept}

-- the nodes before each node on the chosen walk to it, the last one first
abbrev pub Taken : Type 0
Taken = ℕ → Option (List ℕ)

-- a walk to v is chosen, and after the walk to u the edge to v brings the same, except to sets that
-- are marked at v
pub record IsEdgeFollowed (a : Events) (taken : Taken) (marks : ℕ → Marks) (walk : List ℕ)
    (u v : ℕ) : Type 0 where
  pub there : List ℕ
  pub is : taken v ≡ Some there
  pub agrees : (s : ℕ) → marks v s ≡ false → last_event a s (u ∷ walk) v ≡ last_event a s there v

-- an edge to v brings something different to set s
pub record BringsOtherBlock (g : Graph) (a : Events) (taken : Taken) (v s : ℕ) : Type 0 where
  pub source : ℕ
  pub edge : Edge g source v
  pub walk : List ℕ
  pub there : List ℕ
  pub from : taken source ≡ Some walk
  pub to : taken v ≡ Some there
  pub differs : last_event a s (source ∷ walk) v ≢ last_event a s there v

-- walks are chosen to some nodes, and a set is marked only if an edge brings something different to
-- it
pub record AreTaken (g : Graph) (a : Events) (taken : Taken) (marks : ℕ → Marks) : Type 0 where
  pub first : taken g.first ≡ Some []
  pub walks : (v : ℕ) (walk : List ℕ) → taken v ≡ Some walk → IsWalk g (v ∷ walk)
  pub parent : (v u : ℕ) (walk : List ℕ) → taken v ≡ Some (u ∷ walk) → taken u ≡ Some walk
  pub others : (v s : ℕ) → marks v s ≡ true → BringsOtherBlock g a taken v s

-- and each edge was followed
pub record AreAllTaken (g : Graph) (a : Events) (taken : Taken) (marks : ℕ → Marks) : Type 0 where
  pub are : AreTaken g a taken marks
  pub met : (u v : ℕ) (walk : List ℕ) → taken u ≡ Some walk → Edge g u v
      → IsEdgeFollowed a taken marks walk u v

-- the walk that was chosen to a node, what it leaves, and whether it leaves the node's block in its
-- set
pub record IsStored (g : Graph) (a : Events) (taken : Taken) (states : List Cache) (hit : Bool)
    (v place : ℕ) : Type 0 where
  pub walk : List ℕ
  pub is : taken v ≡ Some walk
  pub hits : IsTrue hit ↔ (last_event a (a.set v) walk v ≡ Some (a.block v))
  pub kept : IsKept g a.brings v
      → (place < length states) × ((s : ℕ) → held (state_at states place) s ≡ last_event a s walk v)

-- a node whose edges are still to be followed, with what the walk to it leaves
pub record IsToFollow (a : Events) (taken : Taken) (x : ℕ × Held) : Type 0 where
  pub walk : List ℕ
  pub is : taken x.0 ≡ Some walk
  pub leaves : (s : ℕ) → x.1 s ≡ last_event a s walk x.0

-- a node waits with some state
abbrev pub Waits : List (ℕ × Held) → ℕ → Type 0
Waits todo u = (leaves : Held) × Contains todo (u, leaves)

-- the invariant while walks are chosen: each edge that is done leads to a node to which a walk was
-- chosen, or its source waits
pub record IsWalkSearch (g : Graph) (a : Events) (taken : Taken) (met : List (Option ℕ))
    (states : List Cache) (hits : List Bool) (apart : List (List ℕ)) (todo : List (ℕ × Held))
    (done : ℕ → ℕ → Type 0) : Type 0 where
  pub are : AreTaken g a taken (λ n s. has (sets_at apart n) s)
  pub met_count : length met ≡ g.size
  pub hits_count : length hits ≡ g.size
  pub apart_count : length apart ≡ g.size
  pub unmet : (v : ℕ) → slice_index_or met v None ≡ None → taken v ≡ None
  pub stored : (v place : ℕ) → slice_index_or met v None ≡ Some place
      → IsStored g a taken states (slice_index_or hits v false) v place
  pub waiting : All (IsToFollow a taken) todo
  pub passed : (u v : ℕ) (walk : List ℕ) → taken u ≡ Some walk → Edge g u v → done u v
      → Waits todo u ⊎ IsEdgeFollowed a taken (λ n s. has (sets_at apart n) s) walk u v

-- of the edges from the source, those to these targets are done; the state is what the walk leaves
-- after the source
pub record IsFollowingEdges (g : Graph) (a : Events) (met : List (Option ℕ)) (states : List Cache)
    (hits : List Bool) (apart : List (List ℕ)) (todo : List (ℕ × Held)) (source : ℕ)
    (state : Cache) (targets : List ℕ) : Type 0 where
  pub taken : Taken
  pub under_way : IsWalkSearch g a taken met states hits apart todo
      (λ u v. (u ≢ source) ⊎ Contains targets v)
  pub walk : List ℕ
  pub from : taken source ≡ Some walk
  pub leaves : (s : ℕ) → held state s ≡ after_node a s source (last_event a s walk source)

-- all edges are done, except those of the waiting nodes
abbrev pub HasWalkSearch : Graph → Events → List (Option ℕ) → List Cache → List Bool
    → List (List ℕ) → List (ℕ × Held) → Type 0
HasWalkSearch g a met states hits apart todo =
    (taken : Taken) × IsWalkSearch g a taken met states hits apart todo (λ u v. Unit {0})

-- what an edge makes of what the sets hold after its source
abbrev pub across : (ℕ → ℕ → ℕ → Option ℕ) → ℕ → Held → ℕ → Held
across brings u after v s = or_before (brings u v s) (after s)

-- the waiting nodes with what the sets hold, from those with states
abbrev pub held_in : List (ℕ × Cache) → List (ℕ × Held)
held_in todo = map (λ x. (x.0, held x.1)) todo

-- the waiting nodes, with the node to which a walk continues, if it does, and what the walk leaves
-- before it
abbrev pub with_next : List (ℕ × Held) → Option ℕ → (ℕ → Held) → List (ℕ × Held)
with_next todo None before = todo
with_next todo (Some n) before = todo ++ (n, before n) ∷ []

-- 1 for a node that was not reached, otherwise 0
abbrev pub one_if_unmet : Option ℕ → ℕ
one_if_unmet None = 1
one_if_unmet (Some place) = 0

-- the work left: two for each node not reached, and the waiting nodes
abbrev pub still_to_do : List (Option ℕ) → List (ℕ × Held) → ℕ
still_to_do met todo = 2 * sum_by one_if_unmet met + length todo

-- the state at the place is what the walk leaves before a node
pub record IsStateLeft (a : Events) (walk : List ℕ) (y : ℕ) (place : Option ℕ)
    (states : List Cache) : Type 0 where
  pub at : ℕ
  pub is : place ≡ Some at
  pub within : at < length states
  pub each : (s : ℕ) → held (state_at states at) s ≡ last_event a s walk y

-- a walk to each node: which sets an edge marks, which nodes' own walks leave their blocks in their
-- sets, and what the walks to nodes whose states are kept leave
pub record HaveWalks (g : Graph) (a : Events) (met : List (Option ℕ)) (states : List Cache)
    (hits : List Bool) (apart : List (List ℕ)) : Type 0 where
  pub taken : Taken
  pub all : AreAllTaken g a taken (λ n s. has (sets_at apart n) s)
  pub hits_count : length hits ≡ g.size
  pub apart_count : length apart ≡ g.size
  pub hit : (y : ℕ) (walk : List ℕ) → taken y ≡ Some walk
      → IsTrue (slice_index_or hits y false) ↔ (last_event a (a.set y) walk y ≡ Some (a.block y))
  pub met_count : length met ≡ g.size
  pub kept : (y : ℕ) (walk : List ℕ) → taken y ≡ Some walk → IsKept g a.brings y
      → IsStateLeft a walk y (slice_index_or met y None) states

-- a state is stored if the node's is kept
pub record KeepsState (g : Graph) (brings : ℕ → ℕ → ℕ → Option ℕ) (node : ℕ) (state : Cache)
    (states new : List Cache) : Type 0 where
  pub kept : (k : ℕ) → k < length states → state_at new k ≡ state_at states k
  pub grown : length states ≤ length new
  pub own : IsKept g brings node → (length states < length new) × (state_at new (length states) ≡ state)

-- a node was found by an edge: what the edge makes of the state is kept if the node's is, and so is
-- whether it has the node's block in its set
pub record IsFoundAcross (g : Graph) (a : Events) (source n : ℕ) (after : Cache)
    (met new_met : List (Option ℕ)) (states new_states : List Cache)
    (hits new_hits : List Bool) : Type 0 where
  pub before : Cache
  pub across : (s : ℕ) → held before s ≡ across a.brings source (held after) n s
  pub place : new_met ≡ slice_set met n (Some (length states))
  pub kept : KeepsState g a.brings n before states new_states
  pub hit : Bool
  pub stored : new_hits ≡ slice_set hits n hit
  pub is_hit : IsTrue hit ↔ (held before (a.set n) ≡ Some (a.block n))
