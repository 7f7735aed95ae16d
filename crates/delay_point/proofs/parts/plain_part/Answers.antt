use Rattle.std.proofs.Common.{length}
use Rattle.delay_count.specs.Gamma.{part_at}
use Rattle.delay_point.proofs.Joined.{plain_is}
use Rattle.delay_point.proofs.parts.plain_part.Goals as goal

pub returns : goal.returns
returns c =
    plain_is c.args.platform.now c.args.graph.now c.args.nest.now (part_at c.args.higher.now)
    (length c.args.higher.now) c.in_ok-analysis.field-0.analysis
    c.in_ok-analysis.field-0.useful.items c.deref.result.now c.with_standing.result.part
    c.with_standing.result.point c.in_ok-analysis.ensures.exact c.in_ok-analysis.ensures.useful
    c.deref.ensures.value c.with_standing.ensures.part c.with_standing.ensures.point
