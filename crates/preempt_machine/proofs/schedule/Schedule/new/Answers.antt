use Rattle.std.proofs.Common.{refl, arith}
use Rattle.preempt_machine.specs.Safe.{system_of}
use Rattle.preempt_machine.proofs.Starting.{starts_kept}
use Rattle.preempt_machine.proofs.schedule.Schedule.new.Goals as goal

pub returns-clause-scheduled : goal.returns-clause-scheduled
returns-clause-scheduled c sets cache memory room =
    let queue = c.in_ok-queue.queue in
    let sys = system_of c.args.set.now c.args.code.now in
    starts_kept sets sys cache memory c.as_slice-lines.result.now c.in_ok-jobs.jobs.items
    queue.released queue.due.items queue.later.items queue.heads.items
    c.in_ok-completions.completions.items
    (c.in_ok-jobs.ensures.jobs sys refl)
    c.in_ok-queue.ensures.released
    room
    c.in_ok-queue.ensures.due
    c.in_ok-queue.ensures.linked
    c.in_ok-queue.ensures.each
    (λ t a. c.in_ok-queue.ensures.heads t (omega (arith, c.in_ok-queue.ensures.tasks)))
    c.in_ok-completions.ensures.long
    c.in_ok-completions.ensures.each
