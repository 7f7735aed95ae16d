-- The pairs of the sets so far.
use Rattle.icache.specs.Accesses.{accesses}
use Rattle.flat_graph.specs.CodeGraph.{graph_of, places_of}
use Rattle.cert_build.specs.Inner.Entries.{ListsSure}
use Rattle.cert_build.proofs.leader_states.known_blocks.Given as goal

abbrev pub invariant-loop-set : goal.invariant-loop-set
invariant-loop-set l =
    ListsSure (graph_of l.graph) (accesses l.geometry.platform (places_of l.graph).address)
    l.leader.0 l.set l.pairs.items
