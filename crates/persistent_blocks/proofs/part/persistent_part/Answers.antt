use Rattle.loop_regions.proofs.Beside.{nested}
use Rattle.persistent_blocks.proofs.RegionEvents.{region_are}
use Rattle.persistent_blocks.proofs.part.persistent_part.Goals as goal

pub paid_part-requires-clause-events : goal.paid_part-requires-clause-events
paid_part-requires-clause-events c =
    region_are c.new-geometry.result.platform c.args.graph.now c.args.nest.now
    c.in_ok-heads.heads.items c.in_ok-blocks.blocks.items c.graph_law.ensures.graph
    (nested c.args.graph.now c.args.nest.now c.requires.nest) c.graph_law.ensures.successors
    c.in_ok-heads.ensures c.in_ok-blocks.ensures
