-- The longest cost of one instruction of a task.
use Rattle.std.specs.Prelude.{◌≡◌, ◌<◌, ℕ, zero, suc, max, Bool, false, if◌then◌else◌, List, []}
use Rattle.std.specs.Prelude.{◌∷◌, length, slice_index}
use Rattle.crpd_base.specs.declared.data.Platform.{Platform}
use Rattle.crpd_base.specs.declared.data.TaskSet.{TaskSet}
use Rattle.flat_graph.specs.CodeGraph.{CodeGraph, graph_of, node_code, graph_at, answers_of}
use Rattle.flat_graph.specs.Graph.{Graph}
use Rattle.flat_graph.specs.EdgeCost.{NodeCode, edge_cost, end_cost}

-- the largest of f over a list, or 0
abbrev pub greatest_of : (ℕ → ℕ) → List ℕ → ℕ
greatest_of f [] = 0
greatest_of f (x ∷ xs) = max (f x) (greatest_of f xs)

-- the largest cost of a node's edges, the one to the end included, with a miss
abbrev pub longest_at_node : Platform → Graph → NodeCode → (ℕ → Bool) → ℕ → ℕ
longest_at_node p g l answers u =
    max (greatest_of (edge_cost p l (λ y. false) u) (g.next u))
    (if answers u then end_cost p l (λ y. false) u else 0)

-- the largest cost of an edge of the nodes below n
abbrev pub longest_below : Platform → Graph → NodeCode → (ℕ → Bool) → ℕ → ℕ
longest_below p g l answers zero = 0
longest_below p g l answers (suc n) =
    max (longest_at_node p g l answers n) (longest_below p g l answers n)

-- the largest cost of any edge
abbrev pub longest : Platform → Graph → NodeCode → (ℕ → Bool) → ℕ
longest p g l answers = longest_below p g l answers g.size

-- the longest cost of one instruction of each task
pub record AreLongest (set : TaskSet) (graphs : List CodeGraph) (costs : List ℕ) : Type 0 where
  pub each : (k : ℕ) → k < length set.tasks →
      slice_index costs k ≡ longest set.platform (graph_of (graph_at graphs k))
      (node_code (graph_at graphs k)) (answers_of (graph_at graphs k))
