use Rattle.std.proofs.Common.{arith}
use Rattle.std.proofs.lemmas.Result.{err_from_is_err_and}
use Rattle.flat_graph.specs.CodeGraph.{no_graph}
use Rattle.flat_graph.proofs.CodeGraphs.{code_is_graph}
use Rattle.loop_regions.specs.TaskGraphs.{task_graph_at}
use Rattle.crpd_base.proofs.Times.{has_times}
use Rattle.delay_count.specs.Demand.{demand}
use Rattle.cert_build.proofs.OneBest.{one_best}
use Rattle.cert_build.proofs.Judged.{best_is_judged}
use Rattle.cert_build.proofs.Certified.{is_best, few_entries, best_in_ranges, not_scheduled}
use Rattle.cert_build.proofs.all_tasks.certify.Goals as goal

pub returns-clause-exact : goal.returns-clause-exact
returns-clause-exact c =
    is_best c.args.set.now (demand c.args.set.now)
    (task_graph_at c.args.graphs.now c.args.nests.now) c.in_ok-analyses.analyses.items
    c.in_ok-analyses.ensures c.in_ok-certificate.certificate
    (c.in_ok-certificate.ensures c.args.nests.now)

pub returns-clause-few : goal.returns-clause-few
returns-clause-few c =
    few_entries c.args.set.now (demand c.args.set.now)
    (task_graph_at c.args.graphs.now c.args.nests.now) c.in_ok-analyses.analyses.items
    c.in_ok-analyses.ensures c.in_ok-certificate.certificate
    (c.in_ok-certificate.ensures c.args.nests.now)

pub returns-clause-ranges : goal.returns-clause-ranges
returns-clause-ranges c =
    best_in_ranges c.args.set.now (demand c.args.set.now)
    (task_graph_at c.args.graphs.now c.args.nests.now) c.in_ok-analyses.analyses.items
    c.in_ok-analyses.ensures c.in_ok-certificate.certificate
    (c.in_ok-certificate.ensures c.args.nests.now) c.requires.set

pub returns-clause-judged : goal.returns-clause-judged
returns-clause-judged c =
    best_is_judged c.args.set.now (task_graph_at c.args.graphs.now c.args.nests.now)
    c.in_ok-certificate.certificate
    (λ k l. code_is_graph _
    (c.graphs_law.ensures k no_graph (omega (arith, l, c.requires.tasks.all_graphs))))
    (is_best c.args.set.now (demand c.args.set.now)
    (task_graph_at c.args.graphs.now c.args.nests.now) c.in_ok-analyses.analyses.items
    c.in_ok-analyses.ensures c.in_ok-certificate.certificate
    (c.in_ok-certificate.ensures c.args.nests.now))

pub returns-clause-one : goal.returns-clause-one
returns-clause-one c d D =
    one_best c.args.set.now (task_graph_at c.args.graphs.now c.args.nests.now) d
    c.in_ok-certificate.certificate (has_times c.args.set.now c.requires.set) D
    (is_best c.args.set.now (demand c.args.set.now)
    (task_graph_at c.args.graphs.now c.args.nests.now) c.in_ok-analyses.analyses.items
    c.in_ok-analyses.ensures c.in_ok-certificate.certificate
    (c.in_ok-certificate.ensures c.args.nests.now))

pub returns-in_err-certificate-clause-exact : goal.returns-in_err-certificate-clause-exact
returns-in_err-certificate-clause-exact c =
    let p = err_from_is_err_and c.from_residual-in_err-certificate.result
    c.from_residual-in_err-certificate.ensures.1 in
    rw p.1
    (not_scheduled c.args.set.now (demand c.args.set.now)
    (task_graph_at c.args.graphs.now c.args.nests.now) c.in_ok-analyses.analyses.items
    c.in_ok-analyses.ensures
    c.in_err-certificate.field-0.0 p.0 (c.in_err-certificate.ensures c.args.nests.now) p.2)
