use Rattle.std.proofs.Common.{◌≡◌, ℕ, ◌<◌, List, length, [], get_or, set, refl, sym, ◌∙◌, ap, subst}
use Rattle.std.proofs.Common.{arith, get_or-set_same}
use Rattle.std.proofs.lemmas.List.{get_or_default, set-get_or}
use Rattle.crpd_base.specs.declared.data.JobId.{JobId}
use Rattle.preempt_machine.specs.declared.Completion.{Completion}
use Rattle.preempt_machine.specs.Machine.{Job, ins_at, job_at, no_job}
use Rattle.preempt_machine.specs.Step.{turn_after_execution}
use Rattle.preempt_machine.specs.Jobs.{turn_by}
use Rattle.preempt_machine.specs.Inner.Jobs.{found_by}
use Rattle.preempt_machine.specs.Running.{job_id, system_by, IsStoreNow}
use Rattle.preempt_machine.specs.Schedule.{completion}
use Rattle.preempt_machine.specs.Inner.Parts.{machine_of}
use Rattle.preempt_machine.proofs.CandidateTurns.{fetches, fetch_made, turned_on}
use Rattle.preempt_machine.proofs.Turns.{on_err_of}
use Rattle.preempt_machine.proofs.parts.Parts.work.Goals as goal

own_job : (jobs : List Job) (place : ℕ) (job : Job) → place < length jobs
    → job ≡ get_or jobs place job → job ≡ job_at jobs place
own_job jobs place job below read = read ∙ get_or_default jobs place job no_job below

pub returns-clause-ok : goal.returns-clause-ok
returns-clause-ok c =
    let m = machine_of c.args.self.now in
    let sys = system_by c.args.self.now.core.geometry.platform c.args.code.now in
    let place = c.args.place in
    let after = c.advance.new.self in
    let own = own_job m.jobs place c.index_mut-job.result.now c.requires.below
    c.index_mut-job.ensures.value in
    let executes = subst (λ (j : Job). turn_by after.cache after.memory 0 c.advance.new.job
    ≡ turn_after_execution sys m.time (turn_by m.cache m.memory 0 j) (ins_at sys j.pc)) own
    c.in_ok-found.ensures.ok in
    let found = subst (λ (j : Job).
    c.in_ok-found.found ≡ found_by sys (turn_by m.cache m.memory 0 j)) own
    c.in_ok-found.ensures.found in
    let there = c.index.ensures
    ∙ get_or_default c.args.self.now.schedule.completions.items place c.index.result.now
    (completion [] 0) (omega (arith, c.requires.below, c.requires.machine.told))
    ∙ c.requires.machine.completions place c.requires.below in
    let id : c.index.result.now.job ≡ job_id m place = ap (λ (x : Completion). x.job) there in
    let pc : c.pc-address.result ≡ (job_at m.jobs place).pc =
    c.pc-address.ensures ∙ ap (λ (j : Job). j.pc) own in
    record {
      state =
          rw (turned_on sys m place after.cache after.memory c.advance.new.job c.requires.switched
          executes) refl;
      steps = refl;
      fetch = c.fetch_of-self.ensures
          ∙ ap (λ (i : JobId). fetches i c.pc-address.result c.in_ok-found.found) id
          ∙ ap (λ (a : ℕ). fetches (job_id m place) a c.in_ok-found.found) pc
          ∙ ap (fetches (job_id m place) (job_at m.jobs place).pc) found
          ∙ sym (fetch_made sys m place c.requires.switched);
      geometry = c.advance.ensures.geometry;
      completions = refl;
      queue = refl;
    }

pub returns-in_err-found-clause-err : goal.returns-in_err-found-clause-err
returns-in_err-found-clause-err c =
    let m = machine_of c.args.self.now in
    let place = c.args.place in
    let err = c.in_err-found.ensures.err in
    let own = own_job m.jobs place c.index_mut-job.result.now c.requires.below
    c.index_mut-job.ensures.value in
    let jobs : set m.jobs place c.advance.new.job ≡ m.jobs =
    ap (set m.jobs place) (err.0 ∙ own) ∙ set-get_or m.jobs place no_job in
    on_err_of c.from_residual.result _
    (record {
      state = cc (jobs, err.1);
      fetch = refl;
      geometry = cc err.1;
      completions = refl;
      queue = refl;
    })

pub advance-requires-clause-plan : goal.advance-requires-clause-plan
advance-requires-clause-plan c =
    rw (own_job c.args.self.now.schedule.jobs.items c.args.place c.index_mut-job.result.now
    c.requires.below c.index_mut-job.ensures.value) c.requires.plan

pub advance-requires-clause-open : goal.advance-requires-clause-open
advance-requires-clause-open c =
    rw (own_job c.args.self.now.schedule.jobs.items c.args.place c.index_mut-job.result.now
    c.requires.below c.index_mut-job.ensures.value) c.requires.open

pub returns-in_err-found-clause-only : goal.returns-in_err-found-clause-only
returns-in_err-found-clause-only c =
    let m = machine_of c.args.self.now in
    let sys = system_by c.args.self.now.core.geometry.platform c.args.code.now in
    let own = own_job m.jobs c.args.place c.index_mut-job.result.now c.requires.below
    c.index_mut-job.ensures.value in
    on_err_of c.from_residual.result _
    (rw c.requires.switched
    (subst (λ (j : Job). IsStoreNow sys (turn_by m.cache m.memory 0 j)) own
    c.in_err-found.ensures.store))

pub returns-clause-plan : goal.returns-clause-plan
returns-clause-plan c =
    rw (get_or-set_same c.args.self.now.schedule.jobs.items c.args.place c.advance.new.job no_job
    c.requires.below) c.in_ok-found.ensures.plan
