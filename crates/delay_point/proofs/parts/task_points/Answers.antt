use Rattle.std.proofs.Common.{length}
use Rattle.std.proofs.lemmas.Result.{err_from_is_err_and}
use Rattle.delay_count.specs.Gamma.{part_at}
use Rattle.loop_regions.specs.TaskGraphs.{task_graph}
use Rattle.delay_point.proofs.Joined.{plain_within}
use Rattle.delay_point.proofs.parts.task_points.Goals as goal

pub chosen_part-requires-clause-bound : goal.chosen_part-requires-clause-bound
chosen_part-requires-clause-bound c =
    plain_within c.args.platform.now (task_graph c.args.graph.now c.args.nest.now)
    (part_at c.args.higher.now) (length c.args.higher.now) c.in_ok-plain.plain.part
    c.in_ok-plain.plain.point c.in_ok-plain.ensures

pub returns-in_err-chosen : goal.returns-in_err-chosen
returns-in_err-chosen c =
    let p = err_from_is_err_and c.from_residual-in_err-chosen.result
    c.from_residual-in_err-chosen.ensures.1 in
    rw (p.1, p.2, c.in_err-chosen.ensures) tt

pub returns : goal.returns
returns c = record { plain = c.in_ok-plain.ensures; chosen = c.in_ok-chosen.ensures }
