use Rattle.std.proofs.Common.{◌∙◌, Ok, Err, ap, arith}
use Rattle.flat_graph.specs.CodeGraph.{CodeGraph, graph_of}
use Rattle.cert_check.specs.declared.outcome.Clause.TheVariants.{NodePotentials, LoopPotentials}
use Rattle.loop_regions.specs.TaskGraphs.{task_graph}
use Rattle.cert_check.specs.Verdict.{GraphHolds}
use Rattle.cert_check.specs.Inner.FirstFailing.{AllHold}
use Rattle.cert_check.proofs.Found.{found_first, then_found, handed_on}
use Rattle.cert_check.proofs.Tasks.{to_listing}
use Rattle.cert_check.proofs.graphs.graph_failure.Goals as goal

pub list_failure-requires : goal.list_failure-requires
list_failure-requires c =
    let made = c.new-listing.ensures in
    record { index = rw (made.part, made.graph) made.index }

pub returns-in_err-list_failure : goal.returns-in_err-list_failure
returns-in_err-list_failure c =
    let made = c.new-listing.ensures in
    handed_on
    (GraphHolds c.args.platform.now (task_graph c.args.graph.now c.args.nest.now) c.args.part.now) 2
    7 c.from_residual.result c.in_err-list_failure.field-0.0 c.from_residual.ensures.1
    (found_first
    (GraphHolds c.args.platform.now (task_graph c.args.graph.now c.args.nest.now) c.args.part.now) 2
    2 7 c.in_err-list_failure.field-0.0 (omega arith)
    (rw (made.platform, made.graph, made.part) at c.in_err-list_failure.ensures))

pub write_hits-requires-clause-case : goal.write_hits-requires-clause-case
write_hits-requires-clause-case c =
    let made = c.new-listing.ensures in
    rw (made.platform, made.graph, made.part)
    (to_listing c.args.platform.now c.args.graph.now c.args.nest.now c.args.part.now
    c.new-listing.result.places.now c.requires.platform c.requires.sets made.index
    (rw (made.platform, made.graph, made.part) at c.in_ok-list_failure.ensures))

pub state_failure-requires-clause-case : goal.state_failure-requires-clause-case
state_failure-requires-clause-case c =
    let made = c.new-listing.ensures in
    rw (made.platform, made.graph, made.part)
    (to_listing c.args.platform.now c.args.graph.now c.args.nest.now c.args.part.now
    c.new-listing.result.places.now c.requires.platform c.requires.sets made.index
    (rw (made.platform, made.graph, made.part) at c.in_ok-list_failure.ensures))

pub state_failure-requires-clause-hits : goal.state_failure-requires-clause-hits
state_failure-requires-clause-hits c = c.write_hits.ensures.hits

pub state_failure-requires-clause-order : goal.state_failure-requires-clause-order
state_failure-requires-clause-order c = c.write_hits.ensures.order

pub state_failure-requires-clause-count : goal.state_failure-requires-clause-count
state_failure-requires-clause-count c = c.write_hits.ensures.count

pub returns-in_err-state_failure : goal.returns-in_err-state_failure
returns-in_err-state_failure c =
    let made = c.new-listing.ensures in
    handed_on
    (GraphHolds c.args.platform.now (task_graph c.args.graph.now c.args.nest.now) c.args.part.now) 2
    7 c.from_residual-in_err-state_failure.result c.in_err-state_failure.field-0.0
    c.from_residual-in_err-state_failure.ensures.1
    (then_found
    (GraphHolds c.args.platform.now (task_graph c.args.graph.now c.args.nest.now) c.args.part.now) 2
    2 7 (Err c.in_err-state_failure.field-0.0) (omega arith)
    (omega arith) (rw (made.platform, made.graph, made.part) at c.in_ok-list_failure.ensures)
    (found_first
    (GraphHolds c.args.platform.now (task_graph c.args.graph.now c.args.nest.now) c.args.part.now) 3
    5 7 c.in_err-state_failure.field-0.0 (omega arith)
    (rw (made.platform, made.graph, made.part)
    at (c.in_err-state_failure.ensures c.args.nest.now))))

pub potential_failure-requires-clause-paid : goal.potential_failure-requires-clause-paid
potential_failure-requires-clause-paid c =
    let made = c.new-listing.ensures in
    let listed : AllHold
    (GraphHolds c.args.platform.now (task_graph c.args.graph.now c.args.nest.now) c.args.part.now) 2
    2 = rw (made.platform, made.graph, made.part) at c.in_ok-list_failure.ensures in
    record {
      beside = c.requires.nest;
      nodes = listed NodePotentials (omega arith) (omega arith);
      loops = listed LoopPotentials (omega arith) (omega arith);
      all_hits =
          c.write_hits.ensures.count ∙ ap (λ (g : CodeGraph). (graph_of g).size) made.graph;
    }

pub potential_failure-requires-clause-hits : goal.potential_failure-requires-clause-hits
potential_failure-requires-clause-hits c =
    let made = c.new-listing.ensures in
    rw (made.platform, made.graph, made.part) at c.write_hits.ensures.hits

pub returns : goal.returns
returns c =
    let made = c.new-listing.ensures in
    then_found
    (GraphHolds c.args.platform.now (task_graph c.args.graph.now c.args.nest.now) c.args.part.now) 2
    5 7 c.potential_failure.result (omega arith) (omega arith)
    (then_found
    (GraphHolds c.args.platform.now (task_graph c.args.graph.now c.args.nest.now) c.args.part.now) 2
    2 5 (Ok tt) (omega arith) (omega arith)
    (rw (made.platform, made.graph, made.part) at c.in_ok-list_failure.ensures)
    (rw (made.platform, made.graph, made.part)
    at (c.in_ok-state_failure.ensures c.args.nest.now)))
    c.potential_failure.ensures
