use Rattle.std.proofs.Common.{ℕ, ◌<◌, ◌∙◌, ap, subst, sym, List, length, arith}
use Rattle.crpd_base.specs.declared.data.ScriptJob.{ScriptJob}
use Rattle.preempt_machine.specs.declared.queue.Queue.{Queue}
use Rattle.preempt_machine.specs.Machine.{Job, Machine, job_at}
use Rattle.preempt_machine.specs.Running.{system_by, HasPlan}
use Rattle.preempt_machine.specs.Schedule.{script_line}
use Rattle.preempt_machine.specs.Inner.Schedule.{script_lines}
use Rattle.preempt_machine.specs.Inner.Parts.{machine_of}
use Rattle.preempt_machine.proofs.Firsts.{line_is, lines_long}
use Rattle.preempt_machine.proofs.Steps.{step_line}
use Rattle.preempt_machine.proofs.Taken.{taken_head, taken_jobs, taken_kept, taken_state}
use Rattle.preempt_machine.proofs.Taken.{taken_step, taken_told}
use Rattle.preempt_machine.proofs.Turns.{on_err_of}
use Rattle.preempt_machine.proofs.parts.Parts.take.Goals as goal

pub tell_end-requires-clause-head : goal.tell_end-requires-clause-head
tell_end-requires-clause-head c =
    let sys = system_by c.args.self.now.core.geometry.platform c.args.code.now in
    taken_head sys c.args.self.now c.turn.new.self c.pass.new.self c.args.place c.requires.candidate
    c.requires.head c.in_ok-turn.ensures.ok c.pass.ensures

pub tell_end-requires-clause-task : goal.tell_end-requires-clause-task
tell_end-requires-clause-task c =
    let sys = system_by c.args.self.now.core.geometry.platform c.args.code.now in
    let m = machine_of c.args.self.now in
    let place = c.args.place in
    let heads = c.pass.ensures.heads
    ∙ ap (λ (q : Queue). q.heads.items) c.in_ok-turn.ensures.ok.queue in
    let jobs = ap (λ (n : Machine). n.jobs)
    (taken_state sys c.args.self.now c.turn.new.self c.pass.new.self place c.requires.candidate
    c.in_ok-turn.ensures.ok c.pass.ensures) in
    let line = ap (λ js. (job_at js place).line) jobs ∙ step_line sys m place
    ∙ sym (line_is m.jobs place) in
    let below : (script_line (script_lines m.jobs) place).task.0
    < length c.args.self.now.schedule.queue.heads.items =
    c.requires.machine.waiting.tasks place
    (omega (arith, c.requires.head.below, lines_long m.jobs)) in
    rw heads
    (subst (λ (l : ScriptJob). l.task.0 < length c.args.self.now.schedule.queue.heads.items)
    (sym line) below)

pub returns-clause-machine : goal.returns-clause-machine
returns-clause-machine c =
    let sys = system_by c.args.self.now.core.geometry.platform c.args.code.now in
    taken_kept sys c.args.self.now c.turn.new.self c.pass.new.self c.tell_end.new.self c.args.place
    c.requires.machine c.requires.candidate c.requires.head c.in_ok-turn.ensures.ok c.pass.ensures
    c.tell_end.ensures

pub tell_end-requires-clause-completions : goal.tell_end-requires-clause-completions
tell_end-requires-clause-completions c =
    let sys = system_by c.args.self.now.core.geometry.platform c.args.code.now in
    taken_told sys c.args.self.now c.turn.new.self c.pass.new.self c.args.place c.requires.machine
    c.requires.candidate c.in_ok-turn.ensures.ok c.pass.ensures

pub returns-clause-ok : goal.returns-clause-ok
returns-clause-ok c =
    let sys = system_by c.args.self.now.core.geometry.platform c.args.code.now in
    taken_step sys c.args.self.now c.turn.new.self c.pass.new.self c.tell_end.new.self c.args.place
    c.requires.candidate c.in_ok-turn.ensures.ok c.pass.ensures c.tell_end.ensures

pub returns-clause-plans : goal.returns-clause-plans
returns-clause-plans c =
    let jobs = taken_jobs c.turn.new.self c.pass.new.self c.tell_end.new.self c.args.place
    c.pass.ensures c.tell_end.ensures in
    subst (λ (js : List Job). (x : ℕ) → x < length js → HasPlan c.args.code.now.plans (job_at js x))
    (sym jobs) c.in_ok-turn.ensures.plans

pub returns-in_err-turn-clause-err : goal.returns-in_err-turn-clause-err
returns-in_err-turn-clause-err c =
    on_err_of c.from_residual.result _ c.in_err-turn.ensures.err

pub returns-in_err-turn-clause-only : goal.returns-in_err-turn-clause-only
returns-in_err-turn-clause-only c = on_err_of c.from_residual.result _ c.in_err-turn.ensures.only

pub pass-requires-clause-places : goal.pass-requires-clause-places
pass-requires-clause-places c =
    let turned = c.in_ok-turn.ensures.ok in
    let old = c.args.self.now.schedule in
    rw (turned.queue, turned.completions) (λ p below.
    omega (
      arith,
      c.requires.machine.due.places p below,
      c.requires.machine.told,
      lines_long old.jobs.items,
    ))
