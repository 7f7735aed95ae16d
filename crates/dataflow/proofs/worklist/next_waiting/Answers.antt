use Rattle.std.proofs.Common.{arith}
use Rattle.dataflow.proofs.Waiting.{next_place}
use Rattle.dataflow.proofs.worklist.next_waiting.Goals as goal

pub returns-in-None : goal.returns-in-None
returns-in-None c =
    next_place c.args.order.now c.args.waiting.now c.args.place c.requires.order c.requires.place
    (λ i from to. c.in-None.ensures i from (omega arith)) c.first_waiting-in-None.result
    c.first_waiting-in-None.ensures
