-- The sets of the nodes so far.
use Rattle.std.proofs.Common.{ℕ, IsTrue, ◌↔◌}
use Rattle.crpd_base.specs.Sets.{has}
use Rattle.icache.specs.Accesses.{accesses}
use Rattle.flat_graph.specs.CodeGraph.{places_of}
use Rattle.evict_sets.specs.Evicting.{IsAccessedBelow}
use Rattle.evict_sets.proofs.accessed.evicting.Given as goal

abbrev pub invariant-loop-node : goal.invariant-loop-node
invariant-loop-node g l =
    (s : ℕ) → IsTrue (has l.accessed s)
    ↔ IsAccessedBelow (accesses l.geometry.platform (places_of l.graph).address) l.node s
