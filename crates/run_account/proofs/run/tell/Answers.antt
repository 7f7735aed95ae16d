use Rattle.std.proofs.Common.{◌<◌, length, sym, ◌∙◌, ap, subst, map}
use Rattle.run_account.specs.Inner.Account.{entry_from_completions}
use Rattle.run_account.proofs.run.tell.Goals as goal

pub told-requires-clause-jobs : goal.told-requires-clause-jobs
told-requires-clause-jobs c k r e =
    subst (λ cs. r.job < length cs) (sym c.as_slice.ensures.value) (c.requires.jobs k r e)

pub told-requires-clause-evictors : goal.told-requires-clause-evictors
told-requires-clause-evictors c k r e =
    subst (λ cs. r.evictor < length cs) (sym c.as_slice.ensures.value) (c.requires.evictors k r e)

pub told-requires-clause-preemptors : goal.told-requires-clause-preemptors
told-requires-clause-preemptors c k r e =
    subst (λ cs. r.preemptor < length cs) (sym c.as_slice.ensures.value)
    (c.requires.preemptors k r e)

pub returns-clause-entries : goal.returns-clause-entries
returns-clause-entries c =
    c.new.ensures ∙ c.in_ok-entries.ensures
    ∙ ap (λ cs. map (entry_from_completions cs) c.args.reloads.now) c.as_slice.ensures.value

pub returns-clause-completions : goal.returns-clause-completions
returns-clause-completions c = c.new-2.ensures
