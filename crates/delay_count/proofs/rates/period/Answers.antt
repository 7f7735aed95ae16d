use Rattle.std.proofs.Common.{arith, ◌≡◌, get_or}
use Rattle.crpd_base.proofs.Times.{period_is}
use Rattle.delay_count.proofs.rates.period.Goals as goal

pub returns-clause-some : goal.returns-clause-some
returns-clause-some c =
    let is : c.index-task.result.now
    ≡ get_or c.args.set.now.tasks c.args.k c.index-task.result.now = c.index-task.ensures in
    omega (
      arith,
      c.requires.times.period c.args.k c.requires.task,
      period_is c.args.set.now c.args.k c.index-task.result.now c.requires.task is,
    )

pub returns-clause-most : goal.returns-clause-most
returns-clause-most c =
    let is : c.index-task.result.now
    ≡ get_or c.args.set.now.tasks c.args.k c.index-task.result.now = c.index-task.ensures in
    omega (
      arith,
      c.requires.times.longest c.args.k c.requires.task,
      period_is c.args.set.now c.args.k c.index-task.result.now c.requires.task is,
    )
