use Rattle.std.proofs.Common.{◌≡◌, ◌<◌, sym, subst, arith, length}
use Rattle.loop_regions.specs.TaskGraphs.{AreTaskGraphs}
use Rattle.task_shapes.specs.declared.error.ShapeError.TheVariants.{Memory}
use Rattle.task_shapes.specs.Graphs.{RegionsAt}
use Rattle.crpd_base.proofs.Elements.{count_more}
use Rattle.task_shapes.proofs.Below.{refused_below, value_more}
use Rattle.task_shapes.proofs.Nests.{ShownAt, all_shown}
use Rattle.task_shapes.proofs.regions.all_regions.Goals as goal

pub returns-in-Err-clause-exact : goal.returns-in-Err-clause-exact
returns-in-Err-clause-exact c =
    let l = c.loop-place in
    let below : l.place < length c.args.input.now.set.tasks =
    omega (arith, c.loop-place-test.true, c.task_count-place-end.ensures.is) in
    refused_below (RegionsAt c.args.input.now c.args.graphs.now) l.nests.items
    (length c.args.input.now.set.tasks) l.place Memory c.in-Err.error l.invariant.are
    l.invariant.count below c.in-Err.ensures.exact

pub loop-place-preserved : goal.loop-place-preserved
loop-place-preserved c = record {
  count =
      count_more c.loop-place.nests.items c.push.new.self.items c.in-Ok.nest c.loop-place.place
      c.in_ok-push.ensures.items c.loop-place.invariant.count;
  are =
      value_more (RegionsAt c.args.input.now c.args.graphs.now) c.loop-place.nests.items
      c.push.new.self.items c.loop-place.place c.in-Ok.nest c.loop-place.invariant.are
      c.loop-place.invariant.count c.in-Ok.ensures.exact c.in_ok-push.ensures.items;
  shown =
      value_more (ShownAt c.args.graphs.now) c.loop-place.nests.items c.push.new.self.items
      c.loop-place.place c.in-Ok.nest c.loop-place.invariant.shown c.loop-place.invariant.count
      c.in-Ok.ensures.shown c.in_ok-push.ensures.items;
}

pub returns-clause-shown : goal.returns-clause-shown
returns-clause-shown c =
    let l = c.loop-place in
    let all : length l.nests.items ≡ length c.args.input.now.set.tasks =
    omega (
      arith,
      l.invariant.count,
      c.loop-place-test.false,
      l.auto.place-end,
      c.task_count-place-end.ensures.is,
    ) in
    subst (AreTaskGraphs c.args.input.now.set c.args.graphs.now) (sym c.new.ensures)
    (all_shown c.args.input.now.set c.args.graphs.now c.loop-place.nests.items c.requires all
    c.loop-place.invariant.shown)

pub returns-clause-exact : goal.returns-clause-exact
returns-clause-exact c =
    let l = c.loop-place in
    let all : length l.nests.items ≡ length c.args.input.now.set.tasks =
    omega (
      arith,
      l.invariant.count,
      c.loop-place-test.false,
      l.auto.place-end,
      c.task_count-place-end.ensures.is,
    ) in
    rw c.new.ensures (all, c.loop-place.invariant.are)
