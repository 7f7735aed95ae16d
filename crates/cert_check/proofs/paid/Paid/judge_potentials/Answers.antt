use Rattle.std.proofs.Common.{sym, ◌∙◌, subst, ⊎_elim, arith}
use Rattle.std.proofs.lemmas.Bool.{cases_eq, false≢true}
use Rattle.flat_graph.specs.CodeGraph.{graph_of}
use Rattle.loop_regions.specs.CodeNest.{nest_of}
use Rattle.cert_check.specs.ListedPotentials.{potentials_of}
use Rattle.cert_check.specs.PotentialClauses.{PotentialsMeet}
use Rattle.cert_check.specs.Inner.JudgedNodes.{counted}
use Rattle.loop_regions.specs.Potentials.{costs_of}
use Rattle.cert_check.proofs.paid.Paid.judge_potentials.Goals as goal

pub returns-then-not-node_pays : goal.returns-then-not-node_pays
returns-then-not-node_pays c = record {
  within = omega (arith, c.loop-node-test.true, c.len-node-end.ensures);
  fails = λ h. false≢true (sym c.if-not-node_pays.true ∙ c.node_pays.ensures.1 h);
  holds = c.loop-node.invariant;
}

pub loop-node-preserved : goal.loop-node-preserved
loop-node-preserved c u lt =
    ⊎_elim
    (λ e. subst
    (λ x. PotentialsMeet (graph_of c.args.self.now.graph.now) (nest_of c.args.self.now.nest.now)
    (costs_of c.args.self.now.platform.now c.args.self.now.graph.now
    (counted c.args.self.now.hits.now)) (potentials_of c.args.self.now.part.now) x) (sym e)
    (c.node_pays.ensures.0 c.if-not-node_pays.false))
    (λ ne. c.loop-node.invariant u (omega arith))
    (cases_eq u c.loop-node.node)

pub returns : goal.returns
returns c = λ u lt.
    c.loop-node.invariant u (omega (arith, lt, c.loop-node-test.false, c.len-node-end.ensures))
