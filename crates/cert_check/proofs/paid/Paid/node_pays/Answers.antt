use Rattle.std.proofs.Common.{refl, sym, ◌∙◌}
use Rattle.std.proofs.lemmas.Bool.{false≢true}
use Rattle.flat_graph.specs.CodeGraph.{graph_of}
use Rattle.loop_regions.specs.CodeNest.{nest_of}
use Rattle.cert_check.specs.ListedPotentials.{potentials_of}
use Rattle.cert_check.specs.Inner.JudgedNodes.{counted}
use Rattle.loop_regions.specs.Potentials.{costs_of}
use Rattle.cert_check.specs.Inner.JudgedPotentials.{EdgePaid}
use Rattle.flat_graph.proofs.Nexts.{all_at_edges, edges_at_all}
use Rattle.cert_check.proofs.Potentials.{node_paid, paid_edge}
use Rattle.cert_check.proofs.paid.Paid.node_pays.Goals as goal
use Rattle.cert_check.proofs.paid.Paid.node_pays.Goals.{then-not-end_pays-via-then-not-end_pays}
use Rattle.cert_check.proofs.paid.Paid.node_pays.Goals.{
  then-not-end_pays-via-else-not-end_pays+then-not-edges_pay,
}

pub returns-then-not-end_pays : goal.returns-then-not-end_pays
returns-then-not-end_pays c = (
  (λ t. absurd (false≢true t)),
  (λ M. absurd (elim c.then-not-end_pays.branch [
    | then-not-end_pays-via-then-not-end_pays w ↦
        false≢true (sym w.if-not-end_pays.true ∙ c.end_pays.ensures.1 M.edges.end)
    | then-not-end_pays-via-else-not-end_pays+then-not-edges_pay w ↦
        false≢true (sym w.if-not-edges_pay.true
        ∙ w.edges_pay.ensures.1
        (edges_at_all (graph_of c.args.self.now.graph.now) c.args.node.0
        (EdgePaid (nest_of c.args.self.now.nest.now)
        (costs_of c.args.self.now.platform.now c.args.self.now.graph.now
        (counted c.args.self.now.hits.now)) (potentials_of c.args.self.now.part.now) c.args.node.0)
        c.requires.node
        (λ v e. paid_edge (graph_of c.args.self.now.graph.now) (nest_of c.args.self.now.nest.now)
        (costs_of c.args.self.now.platform.now c.args.self.now.graph.now
        (counted c.args.self.now.hits.now)) (potentials_of c.args.self.now.part.now)
        c.args.node.0 v refl e M)))
  ])),
)

pub returns : goal.returns
returns c = (
  (λ t. node_paid (graph_of c.args.self.now.graph.now) (nest_of c.args.self.now.nest.now)
      (costs_of c.args.self.now.platform.now c.args.self.now.graph.now
      (counted c.args.self.now.hits.now)) (potentials_of c.args.self.now.part.now) c.args.node.0
      (λ v. refl) (c.end_pays.ensures.0 c.if-not-end_pays.false)
      (all_at_edges (graph_of c.args.self.now.graph.now) c.args.node.0
      (EdgePaid (nest_of c.args.self.now.nest.now)
      (costs_of c.args.self.now.platform.now c.args.self.now.graph.now
      (counted c.args.self.now.hits.now)) (potentials_of c.args.self.now.part.now) c.args.node.0)
      (c.edges_pay.ensures.0 c.if-not-edges_pay.false)) (c.head_pays.ensures.0 t)),
  (λ M. c.head_pays.ensures.1 M.loop),
)
