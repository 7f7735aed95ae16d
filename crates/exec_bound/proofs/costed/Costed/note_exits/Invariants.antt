-- The exits so far are recorded.
use Rattle.std.proofs.Common.{◌≡◌, map}
use Rattle.crpd_base.specs.declared.data.NodeId.{NodeId}
use Rattle.loop_regions.specs.CodeNest.{nest_of}
use Rattle.evict_sets.specs.Listing.{counted}
use Rattle.exec_bound.specs.Costs.{priced_costs, listed_potentials}
use Rattle.exec_bound.specs.Inner.Settled.{NotesExits}
use Rattle.exec_bound.proofs.costed.Costed.note_exits.Given as goal

abbrev pub invariant-loop-next : goal.invariant-loop-next
invariant-loop-next l = record {
  settled : l.values.settled.items ≡ l.initial.values.settled.items;
  nodes : l.values.nodes.items ≡ l.initial.values.nodes.items;
  loops : l.values.loops.items ≡ l.initial.values.loops.items;
  exits : NotesExits (nest_of l.self.nest.now)
      (priced_costs l.self.platform.now l.self.graph.now (counted l.self.hits.now)
      l.self.prices.now)
      (listed_potentials l.initial.values.nodes.items l.initial.values.loops.items) l.node.0
      (map (λ (n : NodeId). n.0) l.yielded) l.initial.values.exits.items l.values.exits.items;
}
