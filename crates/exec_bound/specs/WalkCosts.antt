-- What a walk costs from a cache.
use Rattle.std.specs.Prelude.{ℕ, ◌+◌, ◌≤◌, Bool, not, ◌==◌, if◌then◌else◌, List, [], ◌∷◌, Option}
use Rattle.std.specs.Prelude.{Some, IsTrue}
use Rattle.crpd_base.specs.declared.data.Platform.{Platform}
use Rattle.rv_decode.specs.Cost.{cost}
use Rattle.rv_decode.specs.Flow.{flow}
use Rattle.icache.specs.Cache.{is_block}
use Rattle.icache.specs.Accesses.{Accesses}
use Rattle.flat_graph.specs.Graph.{IsWalk}
use Rattle.flat_graph.specs.EdgeCost.{NodeCode, is_return}
use Rattle.flat_graph.specs.CodeGraph.{CodeGraph, graph_of, node_code}
use Rattle.loop_regions.specs.Nest.{Nest, IsKeptWalk}
use Rattle.flat_graph.specs.CodeGraph.{answers_of}

-- the block that a set holds after a walk, last node first, that starts with these blocks in the
-- sets
abbrev pub block_after : Accesses → (ℕ → Option ℕ) → List ℕ → ℕ → Option ℕ
block_after a start [] s = start s
block_after a start (x ∷ before) s =
    if a.set x == s then Some (a.block x) else block_after a start before s

-- whether the fetch at node y misses after the walk
abbrev pub is_miss_after : Accesses → (ℕ → Option ℕ) → List ℕ → ℕ → Bool
is_miss_after a start before y = not (is_block (block_after a start before (a.set y)) (a.block y))

-- the cost of the instructions along a walk, without the last node's
abbrev pub cost_along : Platform → NodeCode → Accesses → (ℕ → Option ℕ) → List ℕ → ℕ
cost_along p l a start [] = 0
cost_along p l a start (y ∷ []) = 0
cost_along p l a start (y ∷ x ∷ before) =
    cost_along p l a start (x ∷ before) + cost p (l.ins x) (is_miss_after a start before x)
    (not (l.address y == l.address x + 4))

-- and with the last node's, which is a completing one
abbrev pub whole_cost : Platform → NodeCode → Accesses → (ℕ → Option ℕ) → ℕ → List ℕ → ℕ
whole_cost p l a start y before =
    cost_along p l a start (y ∷ before) + cost p (l.ins y) (is_miss_after a start before y)
    (is_return (flow (l.address y) (l.ins y)))

-- each kept walk to a completing node, from any cache, costs at most this many cycles
abbrev pub BoundsWalks : Platform → CodeGraph → Nest → Accesses → ℕ → Type 0
BoundsWalks p g n a cycles =
    (start : ℕ → Option ℕ) (y : ℕ) (before : List ℕ) →
    IsWalk (graph_of g) (y ∷ before) → IsKeptWalk n (y ∷ before) → IsTrue (answers_of g y) →
    whole_cost p (node_code g) a start y before ≤ cycles
