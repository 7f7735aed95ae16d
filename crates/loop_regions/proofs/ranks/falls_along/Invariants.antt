use Rattle.std.proofs.Common.{◌<◌, map, slice_index, All}
use Rattle.crpd_base.specs.declared.data.NodeId.{NodeId}
use Rattle.loop_regions.specs.Nest.{IsBackEdge}
use Rattle.loop_regions.specs.Inner.FoundRegions.{nest_in}
use Rattle.loop_regions.proofs.ranks.falls_along.Given as goal

abbrev pub invariant-loop-next : goal.invariant-loop-next
invariant-loop-next l =
    All (λ v. (IsBackEdge (nest_in l.regions) l.u v → ⊥)
    → slice_index l.ranks v < slice_index l.ranks l.u) (map (λ (n : NodeId). n.0) l.yielded)
