use Rattle.std.proofs.Common.{◌≡◌, ◌+◌, ◌-◌, ◌<◌, length, arith}
use Rattle.preempt_machine.specs.Inner.Queue.{due_task}
use Rattle.preempt_machine.proofs.ReleaseOrder.{linked_more}
use Rattle.preempt_machine.proofs.queue.link.Goals as goal

pub loop-at-preserved : goal.loop-at-preserved
loop-at-preserved c =
    let at = c.loop-at.at in
    let n = at - 1 in
    let lines = c.args.lines.now in
    let due = c.args.due.now in
    let next : at ≡ n + 1 = omega (arith, c.loop-at-test.true) in
    let inside : n < length due = omega (arith, c.loop-at-test.true, c.loop-at.invariant.within) in
    let task : c.from-task.result ≡ due_task lines due n = c.from-task.ensures in
    let below : c.from-task.result < length c.loop-at.heads =
    omega (arith, c.requires.tasks _ (c.requires.due.places n inside), c.loop-at.auto.heads) in
    let more = linked_more lines due at n c.from-task.result c.loop-at.later c.loop-at.heads next
    task below (omega (arith, c.loop-at.auto.later, c.requires.later))
    (record {
      within = c.loop-at.invariant.within;
      next = c.loop-at.invariant.next;
      heads_are = c.loop-at.invariant.heads;
    }) in
    record { within = more.within; next = more.next; heads = more.heads_are }
