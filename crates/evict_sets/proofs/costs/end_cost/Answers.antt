use Rattle.std.proofs.Common.{◌≡◌, true, not, sym, ◌∙◌}
use Rattle.flat_graph.specs.CodeGraph.{ins_of}
use Rattle.flat_graph.specs.CodeGraph.{answers_of}
use Rattle.evict_sets.proofs.EdgeCosts.{answers_kind, end_cost_is}
use Rattle.evict_sets.proofs.costs.end_cost.Goals as goal

pub returns-in-Answer : goal.returns-in-Answer
returns-in-Answer c =
    let answers : answers_of c.args.graph.now c.args.id.0 ≡ true =
    answers_kind _ _ (sym c.node-node.ensures.kind ∙ c.in-Answer.is) in
    rw (c.cost.ensures, answers, c.node-node.ensures.instruction)
    (end_cost_is c.args.platform.now _ _ (ins_of c.args.graph.now c.args.id.0)
    (not c.args.hit) answers)
