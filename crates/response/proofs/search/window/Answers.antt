use Rattle.std.proofs.Common.{arith, slice_index}
use Rattle.delay_count.specs.Gamma.{part_at}
use Rattle.delay_count.specs.Demand.{demand}
use Rattle.response.proofs.Least.{found_at, none_left, passed}
use Rattle.response.proofs.Jumps.{longer, needs_is, jumped}
use Rattle.response.proofs.search.window.Goals as goal

pub returns-then-demanded-from : goal.returns-then-demanded-from
returns-then-demanded-from c =
    found_at c.args.set.now
    (demand c.args.set.now (part_at c.args.parts.now) (slice_index c.args.longest.now)
    (slice_index c.args.windows.now) c.args.task.0 c.args.method) c.args.task.0 c.loop-w.w
    c.room-limit.result c.room-limit.ensures c.loop-w.invariant.below c.total-demanded.result _
    (needs_is c.args.set.now (part_at c.args.parts.now) (slice_index c.args.longest.now)
    (slice_index c.args.windows.now) c.args.task.0 c.args.method c.requires.times c.requires.task
    c.own_demand-own.result c.total-demanded.result c.loop-w.w
    (slice_index c.higher_demands-higher.result) c.own_demand-own.ensures.is
    c.higher_demands-higher.ensures.is c.total-demanded.ensures)
    (omega (arith, c.from.ensures)) c.loop-w.invariant.some c.loop-w-test.true (omega arith)

pub returns-then-demanded-from-2 : goal.returns-then-demanded-from-2
returns-then-demanded-from-2 c =
    none_left c.args.set.now
    (demand c.args.set.now (part_at c.args.parts.now) (slice_index c.args.longest.now)
    (slice_index c.args.windows.now) c.args.task.0 c.args.method) c.args.task.0
    c.total-demanded.result c.room-limit.result c.room-limit.ensures
    (passed (demand c.args.set.now (part_at c.args.parts.now) (slice_index c.args.longest.now)
    (slice_index c.args.windows.now) c.args.task.0 c.args.method) c.loop-w.w c.total-demanded.result
    (longer c.args.set.now (part_at c.args.parts.now) (slice_index c.args.longest.now)
    (slice_index c.args.windows.now) c.args.task.0 c.args.method c.requires.times c.requires.task)
    (needs_is c.args.set.now (part_at c.args.parts.now) (slice_index c.args.longest.now)
    (slice_index c.args.windows.now) c.args.task.0 c.args.method c.requires.times c.requires.task
    c.own_demand-own.result c.total-demanded.result c.loop-w.w
    (slice_index c.higher_demands-higher.result) c.own_demand-own.ensures.is
    c.higher_demands-higher.ensures.is c.total-demanded.ensures)
    c.loop-w.invariant.below)
    (omega (arith, c.from-in-loop-w.ensures))

pub returns-then-next-from : goal.returns-then-next-from
returns-then-next-from c =
    none_left c.args.set.now
    (demand c.args.set.now (part_at c.args.parts.now) (slice_index c.args.longest.now)
    (slice_index c.args.windows.now) c.args.task.0 c.args.method) c.args.task.0
    c.lower_bound-next.result c.room-limit.result c.room-limit.ensures
    (jumped c.args.set.now (part_at c.args.parts.now) (slice_index c.args.longest.now)
    (slice_index c.args.windows.now) c.args.task.0 c.args.method c.requires.times c.requires.task
    c.own_demand-own.result c.loop-w.w c.lower_bound-next.result
    (slice_index c.higher_demands-higher.result) (slice_index c.slopes-slopes.result)
    c.own_demand-own.ensures.is c.higher_demands-higher.ensures.is c.slopes-slopes.ensures.slopes
    c.lower_bound-next.ensures.lower c.loop-w.invariant.below)
    (omega (arith, c.from-in-loop-w-2.ensures))

pub loop-w-preserved : goal.loop-w-preserved
loop-w-preserved c = record {
  some = omega (arith, c.loop-w.invariant.some, c.from.ensures, c.lower_bound-next.ensures.onward);
  below =
      jumped c.args.set.now (part_at c.args.parts.now) (slice_index c.args.longest.now)
      (slice_index c.args.windows.now) c.args.task.0 c.args.method c.requires.times c.requires.task
      c.own_demand-own.result c.loop-w.w c.lower_bound-next.result
      (slice_index c.higher_demands-higher.result) (slice_index c.slopes-slopes.result)
      c.own_demand-own.ensures.is c.higher_demands-higher.ensures.is c.slopes-slopes.ensures.slopes
      c.lower_bound-next.ensures.lower c.loop-w.invariant.below;
}

pub returns : goal.returns
returns c =
    none_left c.args.set.now
    (demand c.args.set.now (part_at c.args.parts.now) (slice_index c.args.longest.now)
    (slice_index c.args.windows.now) c.args.task.0 c.args.method) c.args.task.0 c.loop-w.w
    c.room-limit.result c.room-limit.ensures c.loop-w.invariant.below (omega arith)
