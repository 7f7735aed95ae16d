use Rattle.std.proofs.Common.{◌≡◌, ℕ, ◌<◌, ◌++◌, ◌∷◌, [], List, Some, length, sym, ◌∙◌, ap, subst}
use Rattle.std.proofs.Common.{arith, map, slice_get}
use Rattle.std.proofs.lemmas.List.{take_all}
use Rattle.crpd_base.specs.declared.data.TaskPlan.{TaskPlan}
use Rattle.preempt_machine.specs.Machine.{Job, job_at, new_job}
use Rattle.preempt_machine.specs.Running.{HasPlan}
use Rattle.preempt_machine.specs.Schedule.{script_line}
use Rattle.preempt_machine.proofs.Starting.{has_plan, jobs_more, plans_more}
use Rattle.preempt_machine.proofs.Turns.{plan_is}
use Rattle.preempt_machine.proofs.schedule.start_jobs.Goals as goal

pub loop-line-preserved : goal.loop-line-preserved
loop-line-preserved c =
    let lines = c.args.lines.now in
    let i = c.loop-line.line-index in
    let inside = c.loop-line-test.true in
    let job = c.in_ok-job.job in
    let plans = c.args.code.now.plans in
    let task = (script_line lines i).task.0 in
    let there : slice_get plans task ≡ Some c.plan.result.now = c.plan.ensures in
    let pushed : c.push.new.list.items ≡ c.loop-line.jobs.items ++ job ∷ [] =
    c.in_ok-push.ensures in
    let line : job.line ≡ script_line lines i = c.in_ok-job.ensures.line in
    record {
      jobs = λ sys same.
          pushed
          ∙ jobs_more sys lines c.loop-line.jobs.items job i inside
          (c.loop-line.invariant.jobs sys same)
          (c.in_ok-job.ensures.is sys
          (plan_is sys task c.plan.result.now
          (subst (λ (ps : List TaskPlan). slice_get ps task ≡ Some c.plan.result.now)
          (sym same) there)));
      plans =
          subst (λ (js : List Job). (x : ℕ) → x < length js → HasPlan plans (job_at js x))
          (sym pushed)
          (plans_more plans c.loop-line.jobs.items job c.loop-line.invariant.plans
          (has_plan plans (script_line lines i) c.plan.result.now job line (c.requires i inside)
          there c.in_ok-job.ensures.turns));
    }

pub loop-line-init : goal.loop-line-init
loop-line-init c = record {
  jobs = λ sys same. c.new-jobs.ensures.items;
  plans = λ x a. absurd (omega (arith, ap length c.new-jobs.ensures.items));
}

pub returns-clause-jobs : goal.returns-clause-jobs
returns-clause-jobs c sys same =
    c.loop-line.invariant.jobs sys same
    ∙ ap (map (new_job sys)) (take_all c.loop-line.line-index c.args.lines.now (omega arith))

pub returns-clause-plans : goal.returns-clause-plans
returns-clause-plans c = c.loop-line.invariant.plans
