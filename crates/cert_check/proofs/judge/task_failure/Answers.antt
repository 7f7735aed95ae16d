use Rattle.std.proofs.Common.{Ok, Err, arith, slice_index}
use Rattle.cert_check.specs.declared.outcome.Clause.TheVariants.{HasTask}
use Rattle.cert_check.specs.Verdict.{TimesHold, ClauseHolds}
use Rattle.loop_regions.specs.TaskGraphs.{task_graph_at}
use Rattle.cert_check.proofs.Found.{found_first, then_found, handed_on, found_as}
use Rattle.cert_check.proofs.Names.{part_is}
use Rattle.cert_check.proofs.Tasks.{graph_is, nest_is, beside, low_sets, found_task}
use Rattle.cert_check.proofs.Judgements.{times_same, longest_same, higher_hold}
use Rattle.cert_check.proofs.judge.task_failure.Goals as goal

pub returns-in_err-name_failure : goal.returns-in_err-name_failure
returns-in_err-name_failure c =
    handed_on
    (ClauseHolds c.args.set.now (task_graph_at c.args.graphs.now c.args.nests.now)
    c.args.certificate.now c.args.i) 1 9 c.from_residual.result c.in_err-name_failure.field-0.0
    c.from_residual.ensures.1
    (found_first
    (ClauseHolds c.args.set.now (task_graph_at c.args.graphs.now c.args.nests.now)
    c.args.certificate.now c.args.i) 1 1 9 c.in_err-name_failure.field-0.0 (omega arith)
    (c.in_err-name_failure.ensures (task_graph_at c.args.graphs.now c.args.nests.now)))

pub index-part-requires : goal.index-part-requires
index-part-requires c =
    (c.in_ok-name_failure.ensures (task_graph_at c.args.graphs.now c.args.nests.now) HasTask
    (omega arith) (omega arith))

pub graph_failure-requires-clause-nest : goal.graph_failure-requires-clause-nest
graph_failure-requires-clause-nest c =
    beside c.args.set.now c.args.graphs.now c.args.nests.now c.args.i c.index-graphs-i.result
    c.index-nests-i.result c.requires.tasks c.requires.task
    (graph_is c.args.graphs.now c.args.i c.index-graphs-i.result
    (omega (arith, c.requires.task, c.requires.tasks.all_graphs)) c.index-graphs-i.is)
    (nest_is c.args.nests.now c.args.i c.index-nests-i.result
    (omega (arith, c.requires.task, c.requires.tasks.all_nests)) c.index-nests-i.is)

pub graph_failure-requires-clause-sets : goal.graph_failure-requires-clause-sets
graph_failure-requires-clause-sets c =
    low_sets c.args.certificate.now c.args.i c.index-part.result.now c.requires.certificate
    (c.in_ok-name_failure.ensures (task_graph_at c.args.graphs.now c.args.nests.now) HasTask
    (omega arith) (omega arith))
    (part_is c.args.certificate.now c.args.i c.index-part.result.now
    (c.in_ok-name_failure.ensures (task_graph_at c.args.graphs.now c.args.nests.now) HasTask
    (omega arith) (omega arith)) c.index-part.ensures)

pub returns-in_err-graph_failure : goal.returns-in_err-graph_failure
returns-in_err-graph_failure c =
    handed_on
    (ClauseHolds c.args.set.now (task_graph_at c.args.graphs.now c.args.nests.now)
    c.args.certificate.now c.args.i) 1 9 c.from_residual-in_err-graph_failure.result
    c.in_err-graph_failure.field-0.0 c.from_residual-in_err-graph_failure.ensures.1
    (then_found
    (ClauseHolds c.args.set.now (task_graph_at c.args.graphs.now c.args.nests.now)
    c.args.certificate.now c.args.i) 1 1 9 (Err c.in_err-graph_failure.field-0.0) (omega arith)
    (omega arith) (c.in_ok-name_failure.ensures (task_graph_at c.args.graphs.now c.args.nests.now))
    (found_first
    (ClauseHolds c.args.set.now (task_graph_at c.args.graphs.now c.args.nests.now)
    c.args.certificate.now c.args.i) 2 7 9 c.in_err-graph_failure.field-0.0 (omega arith)
    (found_task c.args.set.now c.args.graphs.now c.args.nests.now c.args.certificate.now c.args.i
    c.index-graphs-i.result c.index-nests-i.result c.index-part.result.now
    (Err c.in_err-graph_failure.field-0.0)
    (graph_is c.args.graphs.now c.args.i c.index-graphs-i.result
    (omega (arith, c.requires.task, c.requires.tasks.all_graphs)) c.index-graphs-i.is)
    (nest_is c.args.nests.now c.args.i c.index-nests-i.result
    (omega (arith, c.requires.task, c.requires.tasks.all_nests)) c.index-nests-i.is)
    (part_is c.args.certificate.now c.args.i c.index-part.result.now
    (c.in_ok-name_failure.ensures (task_graph_at c.args.graphs.now c.args.nests.now) HasTask
    (omega arith) (omega arith)) c.index-part.ensures)
    c.in_err-graph_failure.ensures)))

pub time_failure-requires-clause-higher : goal.time_failure-requires-clause-higher
time_failure-requires-clause-higher c =
    higher_hold c.args.set.now (task_graph_at c.args.graphs.now c.args.nests.now)
    c.args.certificate.now c.args.i
    (c.in_ok-name_failure.ensures (task_graph_at c.args.graphs.now c.args.nests.now) HasTask
    (omega arith) (omega arith)) c.requires.higher

pub returns : goal.returns
returns c =
    then_found
    (ClauseHolds c.args.set.now (task_graph_at c.args.graphs.now c.args.nests.now)
    c.args.certificate.now c.args.i) 1 7 9 c.time_failure.result (omega arith) (omega arith)
    (then_found
    (ClauseHolds c.args.set.now (task_graph_at c.args.graphs.now c.args.nests.now)
    c.args.certificate.now c.args.i) 1 1 7 (Ok tt) (omega arith) (omega arith)
    (c.in_ok-name_failure.ensures (task_graph_at c.args.graphs.now c.args.nests.now))
    (found_task c.args.set.now c.args.graphs.now c.args.nests.now c.args.certificate.now c.args.i
    c.index-graphs-i.result c.index-nests-i.result c.index-part.result.now (Ok tt)
    (graph_is c.args.graphs.now c.args.i c.index-graphs-i.result
    (omega (arith, c.requires.task, c.requires.tasks.all_graphs)) c.index-graphs-i.is)
    (nest_is c.args.nests.now c.args.i c.index-nests-i.result
    (omega (arith, c.requires.task, c.requires.tasks.all_nests)) c.index-nests-i.is)
    (part_is c.args.certificate.now c.args.i c.index-part.result.now
    (c.in_ok-name_failure.ensures (task_graph_at c.args.graphs.now c.args.nests.now) HasTask
    (omega arith) (omega arith)) c.index-part.ensures)
    c.in_ok-graph_failure.ensures))
    (found_as
    (TimesHold c.args.set.now (slice_index c.args.longest.now) c.args.certificate.now c.args.i)
    (ClauseHolds c.args.set.now (task_graph_at c.args.graphs.now c.args.nests.now)
    c.args.certificate.now c.args.i) 8 9 c.time_failure.result
    (times_same c.growth_law.ensures.demand c.args.set.now c.times_law.ensures
    (task_graph_at c.args.graphs.now c.args.nests.now) c.args.certificate.now c.args.i
    c.args.longest.now c.requires.task
    (longest_same c.args.set.now c.args.graphs.now c.args.nests.now c.args.longest.now
    c.requires.longest)) c.time_failure.ensures)
