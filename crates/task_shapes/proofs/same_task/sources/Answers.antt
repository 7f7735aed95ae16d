use Rattle.std.proofs.Common.{None}
use Rattle.task_shapes.specs.Inner.SameTask.{IsSource}
use Rattle.crpd_base.proofs.Elements.{count_more, pushed_each}
use Rattle.task_shapes.proofs.same_task.sources.Goals as goal

pub loop-place-preserved : goal.loop-place-preserved
loop-place-preserved c = record {
  count =
      count_more c.loop-place.sources.items c.push.new.self.items c.source.result c.loop-place.place
      c.in_ok-push.ensures.items c.loop-place.invariant.count;
  each =
      pushed_each (IsSource c.args.old.now c.args.input.now)
      c.loop-place.sources.items c.push.new.self.items c.source.result None c.loop-place.place
      c.in_ok-push.ensures.items c.loop-place.invariant.count c.loop-place.invariant.each
      c.source.ensures;
}
