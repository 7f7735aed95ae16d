use Rattle.std.proofs.Common.{arith}
use Rattle.crpd_base.proofs.Times.{deadline_is, jitter_is}
use Rattle.response.proofs.search.room.Goals as goal

pub returns-then-task : goal.returns-then-task
returns-then-task c =
    omega (
      arith,
      jitter_is c.args.set.now c.args.task.0 c.index-task.result.now c.requires.task
          c.index-task.ensures,
      deadline_is c.args.set.now c.args.task.0 c.index-task.result.now c.requires.task
          c.index-task.ensures,
    )
