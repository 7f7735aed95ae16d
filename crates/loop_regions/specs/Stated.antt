-- The regions of stated loops, and the refusals of loops.
use Rattle.std.specs.Prelude.{◌≡◌, ◌≢◌, ◌⊎◌, ℕ, ◌<◌, ◌≤◌, Bool, false, ◌==◌, if◌then◌else◌, List}
use Rattle.std.specs.Prelude.{[], ◌∷◌, Option, Some, None, Contains, IsTrue, IsFalse, slice_get}
use Rattle.flat_graph.specs.Graph.{Graph, Edge, Places}
use Rattle.crpd_base.specs.declared.data.LoopAt.{LoopAt}
use Rattle.flow_watch.specs.Watch.{holds}
use Rattle.loop_regions.specs.Nest.{Nest, IsNested, IsBackEdge}

-- the address of a node in context d as seen from c: its own, or that of the call made in c
abbrev pub seen_from : List ℕ → List ℕ → ℕ → Option ℕ
seen_from [] [] a = Some a
seen_from [] (b ∷ d) a = Some b
seen_from (x ∷ c) [] a = None
seen_from (x ∷ c) (y ∷ d) a = if x == y then seen_from c d a else None

-- whether a loop holds an address, if there is one
abbrev pub holds_seen : LoopAt → Option ℕ → Bool
holds_seen l None = false
holds_seen l (Some a) = holds l a

-- whether the region of a loop in context c holds the node
abbrev pub region_holds : Places → LoopAt → List ℕ → ℕ → Bool
region_holds p l c y = holds_seen l (seen_from c (p.context y) (p.address y))

-- region r is that of the loop in the context of its head
pub record IsRegionOf (g : Graph) (p : Places) (n : Nest) (r : ℕ) (l : LoopAt) : Type 0 where
  pub head : p.address (n.head r) ≡ l.head
  pub bound : n.bound r ≡ l.bound
  pub holds : (y : ℕ) → y < g.size → n.holds r y ≡ region_holds p l (p.context (n.head r)) y

-- the regions of the stated loops, numbered by their heads
pub record IsRegions (g : Graph) (p : Places) (loops : List LoopAt) (n : Nest) : Type 0 where
  pub node : (r : ℕ) → r < n.size → n.head r < g.size
  pub numbered : (r s : ℕ) → r < s → s < n.size → n.head r < n.head s
  pub stated : (r : ℕ) → r < n.size → (l : LoopAt) × Contains loops l × IsRegionOf g p n r l
  pub all : (l : LoopAt) (y : ℕ) → Contains loops l → y < g.size → p.address y ≡ l.head
      → (r : ℕ) × (r < n.size) × (n.head r ≡ y)
  pub nodes_only : (r y : ℕ) → g.size ≤ y → IsFalse (n.holds r y)

-- refusal: the node is entered from outside a region of which it is not the head
abbrev pub IsSecondEntry : Graph → Nest → ℕ → Type 0
IsSecondEntry g n v =
    (r : ℕ) × (r < n.size) × IsTrue (n.holds r v) × (v ≢ n.head r)
    × ((v ≡ g.first) ⊎ ((u : ℕ) × Edge g u v × IsFalse (n.holds r u)))

-- region r holds a node that s does not
abbrev pub HoldsMore : Nest → ℕ → ℕ → Type 0
HoldsMore n r s = (y : ℕ) × IsTrue (n.holds r y) × IsFalse (n.holds s y)

-- refusal: the node is in two regions of which neither holds the other
abbrev pub IsNotNested : Nest → ℕ → Type 0
IsNotNested n y =
    (r s : ℕ) × (r < n.size) × (s < n.size) × IsTrue (n.holds r y) × IsTrue (n.holds s y)
    × HoldsMore n r s × HoldsMore n s r

-- an edge that is no back edge
abbrev pub IsForward : Graph → Nest → ℕ → ℕ → Type 0
IsForward g n u v = Edge g u v × (IsBackEdge n u v → ⊥)

-- a path of such edges from y to z, with these nodes between, the last one first
abbrev pub IsForwardPath : Graph → Nest → ℕ → List ℕ → ℕ → Type 0
IsForwardPath g n y [] z = IsForward g n y z
IsForwardPath g n y (x ∷ before) z = IsForwardPath g n y before x × IsForward g n x z

-- refusal: the node is on a cycle without back edges
abbrev pub IsOnCycle : Graph → Nest → ℕ → Type 0
IsOnCycle g n y = (between : List ℕ) × IsForwardPath g n y between y

-- none of these refusals
pub record HasNoLoopRefusals (g : Graph) (n : Nest) : Type 0 where
  pub one_entry : (v : ℕ) → IsSecondEntry g n v → ⊥
  pub nested : (y : ℕ) → IsNotNested n y → ⊥
  pub no_cycle : (y : ℕ) → IsOnCycle g n y → ⊥

-- the regions of stated loops without these refusals are nested
abbrev pub RegionsLaw : Type 0
RegionsLaw =
    (g : Graph) (p : Places) (loops : List LoopAt) (n : Nest) →
    IsRegions g p loops n → HasNoLoopRefusals g n → IsNested g n

-- refusal: two stated loops have this head
abbrev pub IsSameHead : List LoopAt → ℕ → Type 0
IsSameHead loops a =
    (i j : ℕ) × (l m : LoopAt) × (i < j) × (slice_get loops i ≡ Some l)
    × (slice_get loops j ≡ Some m) × (l.head ≡ a) × (m.head ≡ a)

-- the address of the smallest node with a property
abbrev pub IsLeastAt : Graph → Places → (ℕ → Type 0) → ℕ → Type 0
IsLeastAt g p P a = (y : ℕ) × (y < g.size) × P y × (p.address y ≡ a) × ((z : ℕ) → z < y → P z → ⊥)

-- why stated loops are refused, each with an address
pub data LoopRefusal : Type 0 where
  SameHead : (address : ℕ) → LoopRefusal
  SecondEntry : (address : ℕ) → LoopRefusal
  NotNested : (address : ℕ) → LoopRefusal
  CycleWithoutBound : (address : ℕ) → LoopRefusal

-- the first refusal in order, with the smallest such head, or the address of the smallest such node
abbrev pub IsLoopRefused : Graph → Places → List LoopAt → Nest → LoopRefusal → Type 0
IsLoopRefused g p loops n (SameHead a) = IsSameHead loops a × ((b : ℕ) → IsSameHead loops b → a ≤ b)
IsLoopRefused g p loops n (SecondEntry a) =
    ((b : ℕ) → IsSameHead loops b → ⊥) × IsLeastAt g p (IsSecondEntry g n) a
IsLoopRefused g p loops n (NotNested a) =
    ((b : ℕ) → IsSameHead loops b → ⊥) × ((y : ℕ) → IsSecondEntry g n y → ⊥)
    × IsLeastAt g p (IsNotNested n) a
IsLoopRefused g p loops n (CycleWithoutBound a) =
    ((b : ℕ) → IsSameHead loops b → ⊥) × ((y : ℕ) → IsSecondEntry g n y → ⊥)
    × ((y : ℕ) → IsNotNested n y → ⊥) × IsLeastAt g p (IsOnCycle g n) a
