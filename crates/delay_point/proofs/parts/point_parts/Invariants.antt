-- The parts of the tasks so far.
use Rattle.loop_regions.specs.TaskGraphs.{task_graph_at}
use Rattle.delay_point.specs.Inner.Lists.{ArePointParts}
use Rattle.delay_point.proofs.parts.point_parts.Given as goal

abbrev pub invariant-loop-k : goal.invariant-loop-k
invariant-loop-k l =
    ArePointParts l.set (task_graph_at l.graphs l.nests) l.k l.parts.items l.points.items
    l.chosen.items l.chosen_points.items
