use Rattle.std.proofs.Common.{sym, ◌∙◌}
use Rattle.std.proofs.lemmas.Bool.{false≢true}
use Rattle.loop_regions.specs.TaskGraphs.{task_graph}
use Rattle.cert_check.specs.Inner.JudgedNodes.{counted}
use Rattle.cert_check.proofs.GraphClauses.{inequalities_fail, bound_fails, potentials_hold}
use Rattle.cert_check.proofs.paid.Paid.potential_failure.Goals as goal

pub returns-in-Some : goal.returns-in-Some
returns-in-Some c =
    inequalities_fail c.args.self.now.platform.now
    (task_graph c.args.self.now.graph.now c.args.self.now.nest.now) c.args.self.now.part.now
    (counted c.args.self.now.hits.now) c.requires.hits c.in-Some.node c.in-Some.ensures

pub returns-then-not-bound_holds : goal.returns-then-not-bound_holds
returns-then-not-bound_holds c =
    bound_fails c.args.self.now.platform.now
    (task_graph c.args.self.now.graph.now c.args.self.now.nest.now) c.args.self.now.part.now
    (counted c.args.self.now.hits.now) c.requires.hits c.in_default.ensures
    (λ h. false≢true (sym c.if-not-bound_holds.true ∙ c.bound_holds.ensures.1 h))

pub returns : goal.returns
returns c =
    potentials_hold c.args.self.now.platform.now
    (task_graph c.args.self.now.graph.now c.args.self.now.nest.now) c.args.self.now.part.now
    (counted c.args.self.now.hits.now) c.requires.hits c.in_default.ensures
    (c.bound_holds.ensures.0 c.if-not-bound_holds.false)
