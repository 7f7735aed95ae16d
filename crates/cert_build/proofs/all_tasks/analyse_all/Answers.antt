use Rattle.std.proofs.Common.{◌<◌, ◌≤◌, List, length, sym, ap, ◌∙◌, subst, arith, All, sum_by}
use Rattle.std.proofs.lemmas.Result.{err_from_is_err_and}
use Rattle.crpd_base.specs.declared.data.NodeState.{NodeState}
use Rattle.loop_regions.specs.TaskGraph.{TaskGraph}
use Rattle.flat_graph.specs.CodeGraph.{no_graph}
use Rattle.flat_graph.proofs.CodeGraphs.{code_is_graph}
use Rattle.loop_regions.specs.TaskGraphs.{task_graph_at}
use Rattle.cert_model.specs.Reading.{state_entries}
use Rattle.crpd_base.specs.CertificateRanges.{HasFewPairs}
use Rattle.cert_build.specs.Analysis.{IsAnalysis}
use Rattle.cert_build.specs.Certify.{IsTaskError}
use Rattle.cert_build.proofs.Counting.{at_task, few_states, few_pairs, counted_more, all_kept}
use Rattle.cert_build.proofs.Counting.{too_many, task_refused}
use Rattle.cert_build.proofs.all_tasks.analyse_all.Goals as goal
use Rattle.cert_build.proofs.all_tasks.analyse_all.Goals.{then-few+in_ok-push}
use Rattle.cert_build.proofs.all_tasks.analyse_all.Goals.{else-few}

pub task_entries-found-requires-clause-few : goal.task_entries-found-requires-clause-few
task_entries-found-requires-clause-few c =
    subst (λ (l : List NodeState). length l ≤ 16384) (sym c.as_slice.ensures)
    (few_states c.in_ok-analysis.analysis c.in_ok-analysis.ensures.ranges)

pub task_entries-found-requires-clause-each : goal.task_entries-found-requires-clause-each
task_entries-found-requires-clause-each c =
    subst (λ (l : List NodeState). All HasFewPairs l) (sym c.as_slice.ensures)
    (few_pairs c.in_ok-analysis.analysis c.in_ok-analysis.ensures.ranges)

pub loop-k-preserved : goal.loop-k-preserved
loop-k-preserved c =
    let gl : c.loop-k.k < length c.args.graphs.now = omega (arith, c.loop-k-test.true) in
    let nl : c.loop-k.k < length c.args.nests.now =
    omega (arith, gl, c.requires.tasks.all_graphs, c.requires.tasks.all_nests) in
    let analysis : IsAnalysis c.args.set.now.platform
    (task_graph_at c.args.graphs.now c.args.nests.now c.loop-k.k) c.in_ok-analysis.analysis =
    at_task (λ (t : TaskGraph). IsAnalysis c.args.set.now.platform t c.in_ok-analysis.analysis)
    c.args.graphs.now c.args.nests.now c.loop-k.k c.index-graphs-k.result c.index-nests-k.result gl
    nl c.index-graphs-k.is c.index-nests-k.is c.in_ok-analysis.ensures.exact in
    counted_more c.args.set.now (task_graph_at c.args.graphs.now c.args.nests.now) c.loop-k.k
    c.loop-k.found c.task_entries-found.result c.loop-k.kept.items
    c.if-few.kept.items c.in_ok-analysis.analysis
    analysis c.in_ok-analysis.ensures.ranges
    (c.task_entries-found.ensures.is
    ∙ ap (λ (l : List NodeState). sum_by state_entries l) c.as_slice.ensures)
    c.task_entries-found.ensures.bound
    (elim c.if-few.branch [
      | then-few+in_ok-push w ↦ λ few.
          ap (λ v. v.items) w.kept-is ∙ w.in_ok-push.ensures.items
      | else-few w ↦ λ few.
          absurd (omega (arith, few, w.if-few.false))
    ])
    c.loop-k.invariant

pub returns : goal.returns
returns c =
    all_kept c.args.set.now (task_graph_at c.args.graphs.now c.args.nests.now) c.loop-k.k
    c.loop-k.found c.loop-k.kept.items (omega (arith, c.requires.tasks.all_graphs))
    (omega arith) c.loop-k.invariant

pub returns-then-too_many : goal.returns-then-too_many
returns-then-too_many c =
    too_many c.args.set.now (task_graph_at c.args.graphs.now c.args.nests.now) c.loop-k.k
    c.loop-k.found c.loop-k.kept.items (omega (arith, c.requires.tasks.all_graphs))
    (omega arith) c.loop-k.invariant

pub returns-in_err-analysis : goal.returns-in_err-analysis
returns-in_err-analysis c =
    let gl : c.loop-k.k < length c.args.graphs.now = omega (arith, c.loop-k-test.true) in
    let nl : c.loop-k.k < length c.args.nests.now =
    omega (arith, gl, c.requires.tasks.all_graphs, c.requires.tasks.all_nests) in
    let refused : IsTaskError c.args.set.now.platform
    (task_graph_at c.args.graphs.now c.args.nests.now c.loop-k.k) c.loop-k.k
    c.in_err-analysis.field-0.0 =
    at_task (λ (t : TaskGraph).
    IsTaskError c.args.set.now.platform t c.loop-k.k c.in_err-analysis.field-0.0) c.args.graphs.now
    c.args.nests.now c.loop-k.k c.index-graphs-k.result c.index-nests-k.result gl nl
    c.index-graphs-k.is c.index-nests-k.is c.in_err-analysis.ensures.exact in
    let p = err_from_is_err_and c.from_residual.result c.from_residual.ensures.1 in
    rw (p.1, p.2)
    (task_refused c.args.set.now (task_graph_at c.args.graphs.now c.args.nests.now) c.loop-k.k
    c.loop-k.found c.loop-k.kept.items c.in_err-analysis.field-0.0
    (λ j l. code_is_graph _
    (c.graphs_law.ensures j no_graph (omega (arith, l, c.requires.tasks.all_graphs))))
    (omega (arith, gl, c.requires.tasks.all_graphs)) c.loop-k.invariant refused)
