use Rattle.std.proofs.Common.{arith, ◌≡◌, get_or}
use Rattle.crpd_base.proofs.Times.{period_is, jitter_is}
use Rattle.delay_count.proofs.jobs.jobs.Goals as goal

pub overflow_add-result : goal.overflow_add-result
overflow_add-result c =
    let is : c.index-task.result.now
    ≡ get_or c.args.set.now.tasks c.args.task c.index-task.result.now = c.index-task.ensures in
    omega (
      arith,
      c.requires.times.jitter c.args.task c.requires.task,
      jitter_is c.args.set.now c.args.task c.index-task.result.now c.requires.task is,
    )

pub overflow_sub-result : goal.overflow_sub-result
overflow_sub-result c =
    let is : c.index-task.result.now
    ≡ get_or c.args.set.now.tasks c.args.task c.index-task.result.now = c.index-task.ensures in
    omega (
      arith,
      c.requires.times.period c.args.task c.requires.task,
      period_is c.args.set.now c.args.task c.index-task.result.now c.requires.task is,
    )

pub overflow_add-result-2 : goal.overflow_add-result-2
overflow_add-result-2 c =
    let is : c.index-task.result.now
    ≡ get_or c.args.set.now.tasks c.args.task c.index-task.result.now = c.index-task.ensures in
    omega (
      arith,
      c.requires.times.jitter c.args.task c.requires.task,
      c.requires.times.longest c.args.task c.requires.task,
      jitter_is c.args.set.now c.args.task c.index-task.result.now c.requires.task is,
      period_is c.args.set.now c.args.task c.index-task.result.now c.requires.task is,
    )

pub nonzero_div-result : goal.nonzero_div-result
nonzero_div-result c =
    let is : c.index-task.result.now
    ≡ get_or c.args.set.now.tasks c.args.task c.index-task.result.now = c.index-task.ensures in
    omega (
      arith,
      c.requires.times.period c.args.task c.requires.task,
      period_is c.args.set.now c.args.task c.index-task.result.now c.requires.task is,
    )
