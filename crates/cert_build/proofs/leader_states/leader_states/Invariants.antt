-- The entries of the leaders so far.
use Rattle.icache.specs.Accesses.{accesses}
use Rattle.flat_graph.specs.CodeGraph.{graph_of, places_of}
use Rattle.cert_build.specs.Inner.Entries.{AreLeaderEntries}
use Rattle.cert_build.proofs.leader_states.leader_states.Given as goal

abbrev pub invariant-loop-node : goal.invariant-loop-node
invariant-loop-node l =
    AreLeaderEntries (graph_of l.graph) (accesses l.geometry.platform (places_of l.graph).address)
    l.node l.states.items
