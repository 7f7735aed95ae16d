use Rattle.std.proofs.Common.{length}
use Rattle.crpd_base.specs.Sets.{has}
use Rattle.delay_count.specs.Gamma.{part_at}
use Rattle.loop_regions.specs.TaskGraphs.{task_graph}
use Rattle.useful_sets.specs.Sets.{sets_at}
use Rattle.delay_point.proofs.Joined.{keeps_large, keeps_plain, takes_smaller}
use Rattle.delay_point.proofs.parts.chosen_part.Goals as goal

pub returns-in_default-found : goal.returns-in_default-found
returns-in_default-found c =
    let large = rw c.in_default-found.is at c.in-Ok.ensures.exact in
    keeps_large c.args.platform.now (task_graph c.args.graph.now c.args.nest.now)
    (part_at c.args.higher.now) (length c.args.higher.now) large.0 c.args.plain.now.part
    c.args.plain.now.point large.1 large.2 c.requires.bound

pub returns-then-persistent-plain : goal.returns-then-persistent-plain
returns-then-persistent-plain c =
    let exact = rw c.in-Some.is at c.in-Ok.ensures.exact in
    let count = rw c.in-Some.is at c.in-Ok.ensures.count in
    takes_smaller c.args.platform.now (task_graph c.args.graph.now c.args.nest.now)
    (part_at c.args.higher.now) (length c.args.higher.now) c.args.plain.now.part
    c.args.plain.now.point c.in-Some.persistent.part c.with_standing.result.part
    c.with_standing.result.point c.in-Some.persistent.useful.items c.deref.result.now exact
    c.if-persistent-plain.true c.deref.ensures.value count c.with_standing.ensures.part
    c.with_standing.ensures.point

pub returns : goal.returns
returns c =
    let exact = rw c.in-Some.is at c.in-Ok.ensures.exact in
    keeps_plain c.args.platform.now (task_graph c.args.graph.now c.args.nest.now)
    (part_at c.args.higher.now) (length c.args.higher.now) c.args.plain.now.part
    c.args.plain.now.point c.in-Some.persistent.part
    (λ y. has (sets_at c.in-Some.persistent.useful.items y)) exact c.if-persistent-plain.false
