-- The smallest entry among the successors so far.
use Rattle.std.proofs.Common.{map}
use Rattle.crpd_base.specs.declared.data.NodeId.{NodeId}
use Rattle.loop_regions.specs.Inner.Least.{IsLeastNumber}
use Rattle.loop_regions.specs.Inner.FoundRegions.{nest_in, EntersSome}
use Rattle.loop_regions.proofs.second_entry.entered_from.Given as goal

abbrev pub invariant-loop-next : goal.invariant-loop-next
invariant-loop-next l =
    IsLeastNumber (EntersSome (nest_in l.regions) l.u (map (λ (n : NodeId). n.0) l.yielded)) l.least
