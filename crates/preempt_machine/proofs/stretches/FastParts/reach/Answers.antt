use Rattle.std.proofs.Common.{◌≡◌, ◌∙◌, ap, arith}
use Rattle.std.proofs.lemmas.List.{get_or_default}
use Rattle.preempt_machine.specs.Machine.{Job, job_at, no_job}
use Rattle.preempt_machine.proofs.stretches.FastParts.reach.Goals as goal

pub returns-then-left-until-clause-keeps : goal.returns-then-left-until-clause-keeps
returns-then-left-until-clause-keeps c _ _ =
    let jobs = c.args.self.now.schedule.jobs.items in
    let job : c.index.result.now ≡ job_at jobs c.args.place = c.index.ensures
    ∙ get_or_default jobs c.args.place c.index.result.now no_job c.requires.below in
    omega (arith, c.left-left.ensures ∙ ap (λ (j : Job). j.left) job)
