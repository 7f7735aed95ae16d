use Rattle.std.proofs.Common.{sym, ap, subst, ◌∙◌}
use Rattle.std.proofs.lemmas.Result.{on_ok_weaker}
use Rattle.crpd_base.specs.declared.data.TaskPlan.{TaskPlan}
use Rattle.flow_watch.specs.Watch.{Watch, is_unbroken, step}
use Rattle.flow_watch.specs.Quiet.{AreQuiet}
use Rattle.preempt_machine.specs.Step.{turn_after_effect}
use Rattle.preempt_machine.specs.Jobs.{turn_by}
use Rattle.preempt_machine.proofs.moves.FastCore.finish.Goals as goal

pub returns-clause-ok : goal.returns-clause-ok
returns-clause-ok c =
    let job = c.args.job.now in
    let ins = c.args.execution.ins.now in
    let to = c.in-Goto.to in
    let cache = c.args.self.now.cache in
    let inside = c.is_within.ensures c.if-is_within.true in
    on_ok_weaker c.go_on.result
    (λ h sys k n at plan.
    h sys cache k n at
    (ap (λ (p : TaskPlan). step p job.watch job.pc ins to) plan
    ∙ c.requires.stays c.if-execution.true c.args.plan.now job.watch job.pc to
    ∙ c.requires.quiet to inside.0 inside.1)
    ∙ ap (turn_after_effect sys n ins (turn_by cache c.args.self.now.memory k job))
    (sym c.in-Goto.is))
    c.go_on.ensures.ok

pub returns-clause-quiet : goal.returns-clause-quiet
returns-clause-quiet c =
    on_ok_weaker c.go_on.result
    (λ h. subst (λ (w : Watch). AreQuiet c.args.plan.now w c.args.quiet.now)
    (sym c.go_on.ensures.watch) c.requires.quiet)
    c.go_on.ensures.ok

pub returns-2-clause-quiet : goal.returns-2-clause-quiet
returns-2-clause-quiet c = c.quiet_of.ensures

pub returns-clause-kept : goal.returns-clause-kept
returns-clause-kept c =
    on_ok_weaker c.go_on.result
    (λ h. (
      λ K. (K, ap is_unbroken c.go_on.ensures.watch ∙ c.requires.flagged K),
      λ both. both.0,
    ))
    c.go_on.ensures.ok

pub returns-2-clause-kept : goal.returns-2-clause-kept
returns-2-clause-kept c = c.is_still_kept-self.ensures
