-- The sets of the first nodes that are hits.
use Rattle.std.proofs.Common.{false, slice_index_or}
use Rattle.flat_graph.specs.CodeGraph.{places_of}
use Rattle.icache.specs.Accesses.{accesses}
use Rattle.useful_sets.proofs.HitSets.{AreSetsOf}
use Rattle.useful_sets.proofs.by_hits.sets_of_hits.Given as goal

abbrev pub invariant-loop-node : goal.invariant-loop-node
invariant-loop-node g l =
    AreSetsOf (λ y. slice_index_or l.hits y false)
    (accesses l.geometry.platform (places_of l.graph).address).set l.node l.sets
