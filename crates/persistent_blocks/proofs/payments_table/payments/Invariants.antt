-- The entries of the first nodes.
use Rattle.std.proofs.Common.{◌≡◌, ◌*◌, length}
use Rattle.flat_graph.specs.CodeGraph.{graph_of}
use Rattle.persistent_blocks.specs.Inner.Brought.{region_events}
use Rattle.persistent_blocks.specs.Inner.Paid.{ArePaidBelow}
use Rattle.persistent_blocks.proofs.payments_table.payments.Given as goal

abbrev pub invariant-loop-node : goal.invariant-loop-node
invariant-loop-node l = record {
  count : length l.sets.items ≡ 2 * l.node;
  each : ArePaidBelow (graph_of l.brings.graph.now)
      (region_events l.geometry.platform l.brings.graph.now l.brings.nest.now l.brings.heads.items
      l.brings.blocks.items)
      l.sets.items l.node;
}
