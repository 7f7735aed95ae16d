-- The least facts along the edges of a graph: definitions that only contracts inside the crate
-- cite.
use Rattle.std.specs.Prelude.{ℕ, ◌<◌, List, length, slice_index_or, Option}
use Rattle.dataflow.specs.Problem.{Problem, problem, IsFact, IsLeastSolution}
use Rattle.flat_graph.specs.Graph.{Graph}
use Rattle.must_cache.specs.EdgeLists.{AreGraphEdges}

-- the problem along these edges of a graph
abbrev pub along : {V : Type 0} → (V → V → V) → (ℕ → V → V) → (ℕ → ℕ → V → V) → (ℕ → Option V)
    → Graph → List (ℕ × ℕ) → Problem V
along joined passed crossed begins g edges =
    problem joined passed crossed begins g.size (length edges) (λ k. slice_index_or edges k (0, 0))

-- the least solution of a problem along a graph's edges
pub record AreGraphFacts (V : Type 0) (g : Graph) (p : List (ℕ × ℕ) → Problem V)
    (facts : ℕ → Option V) : Type 0 where
  pub edges : List (ℕ × ℕ)
  pub are : AreGraphEdges g edges
  pub joins : (n : ℕ) → n < g.size → IsFact (p edges) n (facts n)
  pub least : IsLeastSolution V (p edges) facts
