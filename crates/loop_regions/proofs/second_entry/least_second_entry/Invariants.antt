use Rattle.flat_graph.specs.CodeGraph.{graph_of}
use Rattle.loop_regions.specs.Inner.FoundRegions.{nest_in}
use Rattle.loop_regions.specs.Inner.Least.{IsLeastNumber}
use Rattle.loop_regions.proofs.SecondEntries.{IsEntryBelow}
use Rattle.loop_regions.proofs.second_entry.least_second_entry.Given as goal

abbrev pub invariant-loop-u : goal.invariant-loop-u
invariant-loop-u l = IsLeastNumber (IsEntryBelow (graph_of l.graph) (nest_in l.regions) l.u) l.least
