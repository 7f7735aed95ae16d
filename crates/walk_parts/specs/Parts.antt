-- What the proof of safety needs of one task: a part, and what it says of the walks of the task's
-- graph.
use Rattle.std.specs.Prelude.{◌≡◌, ℕ, ◌+◌, ◌<◌, ◌≤◌, Bool, true, IsTrue, List, [], ◌∷◌, Some, None}
use Rattle.crpd_base.specs.declared.data.Part.{Part}
use Rattle.crpd_base.specs.declared.data.Platform.{Platform}
use Rattle.crpd_base.specs.Sets.{has}
use Rattle.flat_graph.specs.Graph.{Edge, IsWalk, onto}
use Rattle.flat_graph.specs.EdgeCost.{edge_cost, end_cost}
use Rattle.icache.specs.Accesses.{accesses, last_access, first_access}
use Rattle.loop_regions.specs.Nest.{IsKeptWalk}
use Rattle.loop_regions.specs.TaskGraph.{TaskGraph, node_code_of, answering}

-- a task's bound and sets, with what they are derived from. Walks are listed with their last node
-- first
pub record WalkPart : Type 0 where
  pub part : Part
  -- whether the last node of a walk is counted as a hit
  pub counts : List ℕ → Bool
  -- the most cycles from the last node of a walk on, but for misses at nodes counted as hits
  pub rest : List ℕ → ℕ
  -- whether a set is useful at a node
  pub useful : ℕ → ℕ → Bool

pub record IsSoundPart (p : Platform) (t : TaskGraph) (w : WalkPart) : Type 0 where
  -- at the start at most the bound remains
  pub start : IsKeptWalk t.nest (t.graph.first ∷ []) → w.rest (t.graph.first ∷ []) ≤ w.part.bound
  -- what remains covers the last node's instruction
  pub edge : (u v : ℕ) (before : List ℕ) → Edge t.graph u v
      → edge_cost p (node_code_of t) (λ y. w.counts (u ∷ before)) u v ≤ w.rest (u ∷ before)
  pub end : (u : ℕ) (before : List ℕ) → u < t.graph.size → IsTrue (answering t u)
      → end_cost p (node_code_of t) (λ y. w.counts (u ∷ before)) u ≤ w.rest (u ∷ before)
  -- and what remains after it
  pub step : (u v : ℕ) (before : List ℕ) → Edge t.graph u v → IsKeptWalk t.nest (v ∷ u ∷ before)
      → edge_cost p (node_code_of t) (λ y. w.counts (u ∷ before)) u v + w.rest (v ∷ u ∷ before)
      ≤ w.rest (u ∷ before)
  -- a node that is counted as a hit has the block of the walk's last access to its set
  pub own : (y : ℕ) (before : List ℕ) → IsWalk t.graph (y ∷ before) → w.counts (y ∷ before) ≡ true
      → let a = accesses p t.places.address in last_access a (a.set y) before ≡ Some (a.block y)
  -- and its set is useful at it, and at each node of the walk since that access
  pub useful_here : (z : ℕ) (before : List ℕ) → IsWalk t.graph (z ∷ before)
      → w.counts (z ∷ before) ≡ true
      → let a = accesses p t.places.address in w.useful z (a.set z) ≡ true
  pub useful_since : (y z : ℕ) (before later : List ℕ)
      → IsWalk t.graph (z ∷ onto later (y ∷ before))
      → w.counts (z ∷ onto later (y ∷ before)) ≡ true
      → let a = accesses p t.places.address in
      first_access a (a.set z) (y ∷ later) ≡ None → w.useful y (a.set z) ≡ true
  -- the task's sets include those of its nodes
  pub evicts : (y : ℕ) → y < t.graph.size
      → let a = accesses p t.places.address in IsTrue (has w.part.evicting (a.set y))
  pub all : (y s : ℕ) → y < t.graph.size → w.useful y s ≡ true → IsTrue (has w.part.useful s)
