use Rattle.std.proofs.Common.{◌≡◌, ◌*◌, ◌^◌, ◌≤◌, take}
use Rattle.crpd_tool.specs.Generate.{node_count}
use Rattle.crpd_tool.proofs.generate.node_count.Given as goal

abbrev pub invariant-loop-graph : goal.invariant-loop-graph
invariant-loop-graph l = record {
  small : l.nodes ≤ l.graph-index * 2 ^ 32;
  counted : l.nodes ≡ node_count (take l.graph-index l.graphs);
}
