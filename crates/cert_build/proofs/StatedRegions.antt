-- Regions of the same stated loops are alike.
use Rattle.std.proofs.Common.{ℕ, List}
use Rattle.crpd_base.specs.declared.data.LoopAt.{LoopAt}
use Rattle.crpd_base.specs.declared.data.TaskSet.{TaskSet}
use Rattle.flat_graph.specs.CodeGraph.{CodeGraph, graph_at, graph_of, places_of}
use Rattle.loop_regions.specs.CodeNest.{CodeNest, nest_of}
use Rattle.loop_regions.proofs.OneNest.{alike}
use Rattle.loop_regions.specs.TaskGraphs.{nest_at}
use Rattle.cert_check.proofs.Alike.{AllAlike}
use Rattle.cert_build.specs.StatedRegions.{AreStatedRegions}

pub stated_alike : (set : TaskSet) (loops : ℕ → List LoopAt) (graphs : List CodeGraph)
    (ns ms : List CodeNest) → AreStatedRegions set loops graphs ns
    → AreStatedRegions set loops graphs ms → AllAlike set ns ms
stated_alike set loops graphs ns ms N M k lt =
    alike (graph_of (graph_at graphs k)) (places_of (graph_at graphs k)) (loops k)
    (λ a. N.heads k a lt) (nest_of (nest_at ns k)) (nest_of (nest_at ms k)) (N.regions k lt)
    (M.regions k lt)
