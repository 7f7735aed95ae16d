-- The first nodes are noted.
use Rattle.flat_graph.specs.CodeGraph.{places_of}
use Rattle.icache.specs.Accesses.{accesses}
use Rattle.loop_regions.specs.CodeNest.{nest_of}
use Rattle.persistent_blocks.specs.Inner.Noted.{AreNoted}
use Rattle.persistent_blocks.proofs.Noting.{below}
use Rattle.persistent_blocks.proofs.region_pairs.note_nodes.Given as goal

abbrev pub invariant-loop-node : goal.invariant-loop-node
invariant-loop-node l =
    AreNoted (accesses l.geometry.platform (places_of l.graph).address)
    (below (nest_of l.nest).holds l.node) l.first l.mixed
