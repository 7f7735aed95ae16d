use Rattle.std.proofs.Common.{◌≡◌, ◌<◌, sym, ◌∙◌, refl, subst, length, List, ℕ, arith}
use Rattle.std.proofs.lemmas.Result.{on_err_weaker}
use Rattle.preempt_machine.specs.Machine.{Job, job_at}
use Rattle.preempt_machine.specs.Running.{system_by, HasPlan}
use Rattle.preempt_machine.specs.Inner.Parts.{machine_of}
use Rattle.preempt_machine.proofs.Candidates.{open_is}
use Rattle.preempt_machine.proofs.Steps.{candidate_some, ready_open}
use Rattle.preempt_machine.proofs.CandidateTurns.{plans_turned}
use Rattle.preempt_machine.proofs.Turns.{on_ok_both}
use Rattle.preempt_machine.proofs.parts.Parts.turn.Goals as goal

pub switch-requires-clause-candidate : goal.switch-requires-clause-candidate
switch-requires-clause-candidate c =
    (candidate_some _ (machine_of c.args.self.now) c.args.place c.requires.candidate).below

pub returns-then-switch_left-gt0-clause-ok : goal.returns-then-switch_left-gt0-clause-ok
returns-then-switch_left-gt0-clause-ok c =
    let core = c.args.self.now.core in
    let sys = system_by core.geometry.platform c.args.code.now in
    c.switch.ensures.turned sys
    (sym (c.switch_cycles-switch_left.ensures sys core.cache core.memory refl))

pub returns-then-switch_left-gt0-clause-plans : goal.returns-then-switch_left-gt0-clause-plans
returns-then-switch_left-gt0-clause-plans c =
    subst (λ (js : List Job). (x : ℕ) → x < length js → HasPlan c.args.code.now.plans (job_at js x))
    (sym c.switch.ensures.jobs) c.requires.plans

pub work-requires-clause-plan : goal.work-requires-clause-plan
work-requires-clause-plan c =
    c.requires.plans c.args.place
    (candidate_some _ (machine_of c.args.self.now) c.args.place c.requires.candidate).below

pub work-requires-clause-below : goal.work-requires-clause-below
work-requires-clause-below c =
    (candidate_some _ (machine_of c.args.self.now) c.args.place c.requires.candidate).below

pub work-requires-clause-open : goal.work-requires-clause-open
work-requires-clause-open c =
    let m = machine_of c.args.self.now in
    open_is (job_at m.jobs c.args.place).standing
    (ready_open m.time (job_at m.jobs c.args.place)
    (candidate_some _ m c.args.place c.requires.candidate).ready)

pub work-requires-clause-switched : goal.work-requires-clause-switched
work-requires-clause-switched c =
    let core = c.args.self.now.core in
    let none : c.switch_cycles-switch_left.result ≡ 0 = omega (arith, c.if-switch_left-gt0.false) in
    sym (c.switch_cycles-switch_left.ensures (system_by core.geometry.platform c.args.code.now)
    core.cache core.memory refl) ∙ none

pub returns-clause-only : goal.returns-clause-only
returns-clause-only c =
    let core = c.args.self.now.core in
    let none : c.switch_cycles-switch_left.result ≡ 0 = omega (arith, c.if-switch_left-gt0.false) in
    on_err_weaker c.work.result
    (λ store. record {
      place = c.args.place;
      is_candidate = c.requires.candidate;
      switched =
          sym (c.switch_cycles-switch_left.ensures
          (system_by core.geometry.platform c.args.code.now) core.cache core.memory refl) ∙ none;
      store = store;
    })
    c.work.ensures.only

pub returns-clause-plans : goal.returns-clause-plans
returns-clause-plans c =
    let sys = system_by c.args.self.now.core.geometry.platform c.args.code.now in
    on_ok_both c.work.result
    (λ turn plan. plans_turned sys c.args.code.now c.args.self.now c.work.new.self c.args.place
    (candidate_some sys (machine_of c.args.self.now) c.args.place c.requires.candidate).below turn
    c.requires.plans plan)
    c.work.ensures.ok c.work.ensures.plan
