use Rattle.std.proofs.Common.{◌<◌, ℕ, slice_index}
use Rattle.flat_graph.specs.CodeGraph.{graph_of}
use Rattle.loop_regions.specs.Stated.{IsForward}
use Rattle.loop_regions.specs.Inner.FoundRegions.{nest_in}
use Rattle.loop_regions.proofs.ranks.all_fall.Given as goal

abbrev pub invariant-loop-u : goal.invariant-loop-u
invariant-loop-u l =
    (u v : ℕ) → u < l.u → IsForward (graph_of l.graph) (nest_in l.regions) u v
    → slice_index l.ranks v < slice_index l.ranks u
