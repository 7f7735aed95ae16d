-- The heads of stated loops among the nodes, and which regions hold a node.
use Rattle.std.specs.Prelude.{◌≡◌, ℕ, ◌<◌, ◌≤◌, Bool, is_some, List, length, slice_get, IsTrue}
use Rattle.std.specs.Prelude.{Option, Some, None, Contains, map}
use Rattle.crpd_base.specs.declared.data.LoopAt.{LoopAt}
use Rattle.flat_graph.specs.Graph.{Places}
use Rattle.loop_regions.specs.Stated.{seen_from, region_holds}
use Rattle.loop_regions.specs.declared.heads.Head.{Head}

-- the nodes of heads
abbrev pub nodes_of : List Head → List ℕ
nodes_of = map (λ h. h.node)

-- the bounds of the loops of heads
abbrev pub bounds_of : List Head → List ℕ
bounds_of = map (λ h. h.bound)

-- the number of a stated loop with this head, or None if there is none
abbrev pub IsLoopAt : List LoopAt → ℕ → Option ℕ → Type 0
IsLoopAt loops a None = (l : LoopAt) → Contains loops l → a ≡ l.head → ⊥
IsLoopAt loops a (Some i) = (l : LoopAt) × (slice_get loops i ≡ Some l) × (a ≡ l.head)

-- the heads of stated loops among the nodes below `bound`, in ascending order
pub record AreHeads (p : Places) (loops : List LoopAt) (bound : ℕ)
    (heads : List Head) : Type 0 where
  pub few : length heads ≤ bound
  pub node : (r : ℕ) (h : Head) → slice_get heads r ≡ Some h → h.node < bound
  pub numbered : (r s : ℕ) (h k : Head) → r < s → slice_get heads r ≡ Some h
      → slice_get heads s ≡ Some k → h.node < k.node
  pub stated : (r : ℕ) (h : Head) → slice_get heads r ≡ Some h
      → (l : LoopAt) × (slice_get loops h.stated ≡ Some l) × (p.address h.node ≡ l.head)
      × (h.bound ≡ l.bound)
  pub all : (l : LoopAt) (y : ℕ) → Contains loops l → y < bound → p.address y ≡ l.head
      → (r : ℕ) × (h : Head) × (slice_get heads r ≡ Some h) × (h.node ≡ y)

-- whether a node is seen from a context
abbrev pub is_seen_from : Places → List ℕ → ℕ → Bool
is_seen_from p c y = is_some (seen_from c (p.context y) (p.address y))

-- the region of this number holds the node
abbrev pub IsHeldBy : Places → List LoopAt → List Head → ℕ → ℕ → Type 0
IsHeldBy p loops heads y r =
    (h : Head) × (l : LoopAt) × (slice_get heads r ≡ Some h) × (slice_get loops h.stated ≡ Some l)
    × IsTrue (region_holds p l (p.context h.node) y)
