-- The edges to the successors so far are covered.
use Rattle.std.proofs.Common.{All, map}
use Rattle.crpd_base.specs.declared.data.NodeId.{NodeId}
use Rattle.loop_regions.specs.CodeNest.{nest_of}
use Rattle.cert_check.specs.ListedPotentials.{potentials_of}
use Rattle.cert_check.specs.Inner.JudgedNodes.{counted}
use Rattle.loop_regions.specs.Potentials.{costs_of}
use Rattle.cert_check.specs.Inner.JudgedPotentials.{EdgePaid}
use Rattle.cert_check.proofs.paid.Paid.edges_pay.Given as goal

abbrev pub invariant-loop-next : goal.invariant-loop-next
invariant-loop-next l =
    All (EdgePaid (nest_of l.self.nest.now)
    (costs_of l.self.platform.now l.self.graph.now (counted l.self.hits.now))
    (potentials_of l.self.part.now) l.node.0) (map (λ (n : NodeId). n.0) l.yielded)
