use Rattle.std.proofs.Common.{◌≡◌, Some, None, refl, sym, ◌∙◌, ap, subst, length}
use Rattle.crpd_base.specs.declared.data.TaskPlan.{TaskPlan}
use Rattle.std.proofs.lemmas.Result.{on_ok_weaker}
use Rattle.flow_watch.specs.Iterations.{HasIterations}
use Rattle.preempt_machine.specs.Machine.{ins_at, plan_of}
use Rattle.preempt_machine.specs.Running.{system_by}
use Rattle.preempt_machine.specs.Jobs.{turn_by}
use Rattle.preempt_machine.specs.Step.{turn_after_execution}
use Rattle.preempt_machine.proofs.Turns.{plan_is, keeps_plan, on_ok_both, on_err_both}
use Rattle.preempt_machine.proofs.jobs.Core.advance.Goals as goal

pub returns-in-Some-clause-ok : goal.returns-in-Some-clause-ok
returns-in-Some-clause-ok c =
    let sys = system_by c.args.self.now.geometry.platform c.args.code.now in
    let plan : plan_of sys c.args.job.now.line.task.0 ≡ c.plan.result.now =
    plan_is sys c.args.job.now.line.task.0 c.plan.result.now
    (rw c.task.ensures at c.plan.ensures) in
    let found : Some c.in-Some.ins ≡ ins_at sys c.args.job.now.pc =
    rw c.pc.ensures at (c.in-Some.ensures.is c.args.self.now.geometry.platform) in
    on_ok_weaker c.execute.result
    (λ h. h sys 0 refl plan ∙ ap
    (turn_after_execution sys c.args.now
    (turn_by c.args.self.now.cache c.args.self.now.memory 0 c.args.job.now)) found)
    c.execute.ensures.ok

pub returns-in-Some-clause-plan : goal.returns-in-Some-clause-plan
returns-in-Some-clause-plan c =
    let sys = system_by c.args.self.now.geometry.platform c.args.code.now in
    let plan : plan_of sys c.args.job.now.line.task.0 ≡ c.plan.result.now =
    plan_is sys c.args.job.now.line.task.0 c.plan.result.now
    (rw c.task.ensures at c.plan.ensures) in
    on_ok_both c.execute.result
    (λ h turns. keeps_plan sys c.args.now c.args.self.now.cache c.execute.new.self.cache
    c.args.self.now.memory c.execute.new.self.memory c.args.job.now c.execute.new.job
    (Some c.in-Some.ins) (h sys 0 refl plan) c.requires.plan
    (subst (λ (p : TaskPlan). HasIterations (length p.loops) c.execute.new.job.watch)
    (sym plan) turns))
    c.execute.ensures.ok c.execute.ensures.turns

pub returns-in-Some-clause-store : goal.returns-in-Some-clause-store
returns-in-Some-clause-store c =
    let sys = system_by c.args.self.now.geometry.platform c.args.code.now in
    let found : Some c.in-Some.ins ≡ ins_at sys c.args.job.now.pc =
    rw c.pc.ensures at (c.in-Some.ensures.is c.args.self.now.geometry.platform) in
    on_err_both c.execute.result
    (λ store last. record {
      ins = c.in-Some.ins;
      instruction = sym found;
      last = last sys 0 refl;
      store = store;
    })
    c.execute.ensures.store c.execute.ensures.last

pub returns-in-None-clause-ok : goal.returns-in-None-clause-ok
returns-in-None-clause-ok c =
    let sys = system_by c.args.self.now.geometry.platform c.args.code.now in
    let none : None ≡ ins_at sys c.args.job.now.pc =
    rw c.pc.ensures at (c.in-None.ensures.is c.args.self.now.geometry.platform) in
    rw (sym none, c.fault.ensures) refl

pub returns-in-Some-clause-geometry : goal.returns-in-Some-clause-geometry
returns-in-Some-clause-geometry c = c.execute.ensures.geometry

pub returns-in-Some-clause-err : goal.returns-in-Some-clause-err
returns-in-Some-clause-err c = c.execute.ensures.err

pub execute-requires-clause-turns : goal.execute-requires-clause-turns
execute-requires-clause-turns c =
    let sys = system_by c.args.self.now.geometry.platform c.args.code.now in
    let plan : plan_of sys c.args.job.now.line.task.0 ≡ c.plan.result.now =
    plan_is sys c.args.job.now.line.task.0 c.plan.result.now
    (rw c.task.ensures at c.plan.ensures) in
    subst (λ (p : TaskPlan). HasIterations (length p.loops) c.args.job.now.watch) plan
    c.requires.plan.loops
