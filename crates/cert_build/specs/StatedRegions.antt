-- Regions of the same stated loops, in any stored order.
use Rattle.std.specs.Prelude.{ℕ, ◌<◌, List, length}
use Rattle.crpd_base.specs.declared.data.LoopAt.{LoopAt}
use Rattle.crpd_base.specs.declared.data.TaskSet.{TaskSet}
use Rattle.flat_graph.specs.CodeGraph.{CodeGraph, graph_at, graph_of, places_of}
use Rattle.flat_graph.specs.Graph.{IsGraph}
use Rattle.loop_regions.specs.CodeNest.{CodeNest, nest_of}
use Rattle.loop_regions.specs.Stated.{HasNoLoopRefusals, IsRegions, IsSameHead}
use Rattle.loop_regions.specs.TaskGraphs.{nest_at}

-- each task has a graph, and the nest at its place has the regions of its stated loops in this
-- graph, with none of the refusals of loops
pub record AreStatedRegions (set : TaskSet) (loops : ℕ → List LoopAt) (graphs : List CodeGraph)
    (nests : List CodeNest) : Type 0 where
  pub graph : (k : ℕ) → k < length set.tasks → IsGraph (graph_of (graph_at graphs k))
  pub heads : (k a : ℕ) → k < length set.tasks → IsSameHead (loops k) a → ⊥
  pub regions : (k : ℕ) → k < length set.tasks
      → IsRegions (graph_of (graph_at graphs k)) (places_of (graph_at graphs k)) (loops k)
      (nest_of (nest_at nests k))
  pub accepted : (k : ℕ) → k < length set.tasks
      → HasNoLoopRefusals (graph_of (graph_at graphs k)) (nest_of (nest_at nests k))
