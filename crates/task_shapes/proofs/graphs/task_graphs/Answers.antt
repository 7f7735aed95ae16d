use Rattle.std.proofs.Common.{◌≡◌, ◌<◌, arith, length}
use Rattle.task_shapes.specs.declared.error.ShapeError.TheVariants.{Memory}
use Rattle.task_shapes.specs.Graphs.{GraphAt}
use Rattle.crpd_base.proofs.Elements.{count_more}
use Rattle.task_shapes.proofs.Below.{refused_below, value_more}
use Rattle.task_shapes.proofs.graphs.task_graphs.Goals as goal

pub returns-in-Err : goal.returns-in-Err
returns-in-Err c =
    let l = c.loop-place in
    let below : l.place < length c.args.input.now.set.tasks =
    omega (arith, c.loop-place-test.true, c.task_count-place-end.ensures.is) in
    refused_below (GraphAt c.args.input.now) l.graphs.items (length c.args.input.now.set.tasks)
    l.place Memory c.in-Err.error l.invariant.are l.invariant.count below c.in-Err.ensures

pub loop-place-preserved : goal.loop-place-preserved
loop-place-preserved c = record {
  count =
      count_more c.loop-place.graphs.items c.push.new.self.items c.in-Ok.graph c.loop-place.place
      c.in_ok-push.ensures.items c.loop-place.invariant.count;
  are =
      value_more (GraphAt c.args.input.now) c.loop-place.graphs.items c.push.new.self.items
      c.loop-place.place c.in-Ok.graph c.loop-place.invariant.are c.loop-place.invariant.count
      c.in-Ok.ensures c.in_ok-push.ensures.items;
}

pub returns : goal.returns
returns c =
    let l = c.loop-place in
    let all : length l.graphs.items ≡ length c.args.input.now.set.tasks =
    omega (
      arith,
      l.invariant.count,
      c.loop-place-test.false,
      l.auto.place-end,
      c.task_count-place-end.ensures.is,
    ) in
    rw c.new.ensures (all, c.loop-place.invariant.are)
