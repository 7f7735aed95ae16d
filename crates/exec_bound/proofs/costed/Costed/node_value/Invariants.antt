-- The value covers the edges so far, and that to the end.
use Rattle.std.proofs.Common.{map}
use Rattle.crpd_base.specs.declared.data.NodeId.{NodeId}
use Rattle.loop_regions.specs.CodeNest.{nest_of}
use Rattle.evict_sets.specs.Listing.{counted}
use Rattle.exec_bound.specs.Costs.{priced_costs, listed_potentials}
use Rattle.exec_bound.specs.Inner.Settled.{IsNodeValue}
use Rattle.exec_bound.proofs.costed.Costed.node_value.Given as goal

abbrev pub invariant-loop-next : goal.invariant-loop-next
invariant-loop-next l =
    IsNodeValue (nest_of l.self.nest.now)
    (priced_costs l.self.platform.now l.self.graph.now (counted l.self.hits.now)
    l.self.prices.now)
    (listed_potentials l.values.nodes.items l.values.loops.items) l.node.0
    (map (λ (n : NodeId). n.0) l.yielded) l.value
