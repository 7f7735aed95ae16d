use Rattle.preempt_machine.proofs.Sorting.{sorted_due}
use Rattle.preempt_machine.proofs.queue.release_order.Goals as goal

pub returns : goal.returns
returns c =
    sorted_due c.args.lines.now c.in_ok-due.due.items c.sort_unstable.new.self.items
    c.in_ok-due.ensures c.sort_unstable.ensures.permutation c.sort_unstable.ensures.sorted
