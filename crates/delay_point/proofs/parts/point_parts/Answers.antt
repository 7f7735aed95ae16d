use Rattle.std.proofs.Common.{◌≡◌, ◌<◌, List, length, arith, subst}
use Rattle.std.proofs.lemmas.Result.{err_from_is_err_and}
use Rattle.crpd_base.specs.declared.data.Part.{Part}
use Rattle.loop_regions.specs.TaskGraph.{TaskGraph}
use Rattle.flat_graph.specs.CodeGraph.{no_graph}
use Rattle.flat_graph.proofs.CodeGraphs.{code_is_graph}
use Rattle.loop_regions.specs.TaskGraphs.{task_graph, task_graph_at}
use Rattle.cert_build.proofs.Counting.{at_task}
use Rattle.delay_count.specs.Gamma.{part_at}
use Rattle.delay_point.specs.Inner.Standing.{AreTaskPoints, IsTaskRefusal}
use Rattle.delay_point.proofs.Joined.{parts_more, task_refused}
use Rattle.delay_point.proofs.parts.point_parts.Goals as goal

pub loop-k-preserved : goal.loop-k-preserved
loop-k-preserved c =
    let gl : c.loop-k.k < length c.args.graphs.now = omega (arith, c.loop-k-test.true) in
    let nl : c.loop-k.k < length c.args.nests.now =
    omega (arith, gl, c.requires.tasks.all_graphs, c.requires.tasks.all_nests) in
    let seen : c.deref.result.now ≡ c.loop-k.parts.items = c.deref.ensures.value in
    let own = c.in_ok-found.found.plain.part in
    let point = c.in_ok-found.found.plain.point in
    let least = c.in_ok-found.found.chosen.part in
    let least_point = c.in_ok-found.found.chosen.point in
    let made : AreTaskPoints c.args.set.now.platform
    (task_graph_at c.args.graphs.now c.args.nests.now c.loop-k.k) (part_at c.loop-k.parts.items)
    (length c.loop-k.parts.items) own point least least_point =
    at_task (λ (t : TaskGraph). AreTaskPoints c.args.set.now.platform t (part_at c.loop-k.parts.items)
    (length c.loop-k.parts.items) own point least least_point)
    c.args.graphs.now c.args.nests.now c.loop-k.k c.index-graphs-k.result c.index-nests-k.result gl
    nl c.index-graphs-k.is c.index-nests-k.is
    (subst (λ (l : List Part). AreTaskPoints c.args.set.now.platform
    (task_graph c.index-graphs-k.result c.index-nests-k.result) (part_at l) (length l)
    own point least least_point) seen c.in_ok-found.ensures) in
    rw (
      c.in_ok-push.ensures.items,
      c.in_ok-push-2.ensures.items,
      c.in_ok-push-3.ensures.items,
      c.in_ok-push-4.ensures.items,
    )
    (parts_more c.args.set.now (task_graph_at c.args.graphs.now c.args.nests.now) c.loop-k.k
    c.loop-k.parts.items c.loop-k.points.items c.loop-k.chosen.items c.loop-k.chosen_points.items
    c.loop-k.invariant own point least least_point made.plain made.chosen)

pub returns-in_err-found : goal.returns-in_err-found
returns-in_err-found c =
    let gl : c.loop-k.k < length c.args.graphs.now = omega (arith, c.loop-k-test.true) in
    let nl : c.loop-k.k < length c.args.nests.now =
    omega (arith, gl, c.requires.tasks.all_graphs, c.requires.tasks.all_nests) in
    let refused : IsTaskRefusal c.args.set.now.platform
    (task_graph_at c.args.graphs.now c.args.nests.now c.loop-k.k) c.loop-k.k
    c.in_err-found.field-0.0 =
    at_task (λ (t : TaskGraph).
    IsTaskRefusal c.args.set.now.platform t c.loop-k.k c.in_err-found.field-0.0) c.args.graphs.now
    c.args.nests.now c.loop-k.k c.index-graphs-k.result c.index-nests-k.result gl nl
    c.index-graphs-k.is c.index-nests-k.is c.in_err-found.ensures in
    let p = err_from_is_err_and c.from_residual.result c.from_residual.ensures.1 in
    rw (p.1, p.2)
    (task_refused c.args.set.now (task_graph_at c.args.graphs.now c.args.nests.now) c.loop-k.k
    c.loop-k.parts.items c.loop-k.points.items c.loop-k.chosen.items c.loop-k.chosen_points.items
    c.loop-k.invariant c.in_err-found.field-0.0
    (λ j l. code_is_graph _
    (c.graphs_law.ensures j no_graph (omega (arith, l, c.requires.tasks.all_graphs))))
    (omega (arith, gl, c.requires.tasks.all_graphs)) refused)
